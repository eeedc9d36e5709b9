use Rattle.std.proofs.Common.{◌+◌, subst, arith}
use Rattle.trs_core.specs.View.{tree}
use Rattle.trs_core.specs.declared.linear.TheConstants.{WINDOW}
use Rattle.trs_core.proofs.Linearity.{OnceBelow, once_more, less_room}
use Rattle.trs_core.proofs.terms.Term.is_linear_by_windows.Goals as goal

pub returns-then-not-occur_once : goal.returns-then-not-occur_once
returns-then-not-occur_once c = (
  λ no. absurd cc,
  λ linear.
      let once = c.occur_once.ensures.once.1 (λ i small. linear (c.in-Some.from + i)) in
      let other = c.if-not-occur_once.true in
      absurd cc,
)

pub loop-next-preserved : goal.loop-next-preserved
loop-next-preserved c =
    once_more WINDOW c.in-Some.from (tree c.args.self.now) _ (c.occur_once.ensures.next c.if-not-occur_once.false)
    (subst (λ o. OnceBelow o (tree c.args.self.now)) c.in-Some.is c.loop-next.invariant) (c.occur_once.ensures.once.0 c.if-not-occur_once.false)

pub loop-next-smaller : goal.loop-next-smaller
loop-next-smaller c =
    rw c.in-Some.is
    (less_room WINDOW c.in-Some.from (tree c.args.self.now) _ (c.occur_once.ensures.next c.if-not-occur_once.false) (omega arith) (omega arith))
