use Rattle.std.proofs.Common.{inl, inr}
use Rattle.std.proofs.lemmas.Result.{err_from_is_err_and}
use Rattle.trs_core.specs.View.{tree}
use Rattle.kbo_order.proofs.Profiling.{not_weak}
use Rattle.kbo_order.proofs.profiles.decrease_by_walk.Goals as goal

pub returns-in_err-greater : goal.returns-in_err-greater
returns-in_err-greater g c = let p = err_from_is_err_and c.from_residual.result c.from_residual.ensures.1 in rw p.1 c.in_err-greater.ensures

pub returns-then-greater : goal.returns-then-greater
returns-then-greater g c =
    let answer = c.in_ok-greater.ensures in
    let greater = (answer.1).0 c.if-greater.true in
    (answer.0, (inr greater, greater))

pub returns-then-same : goal.returns-then-same
returns-then-same g c =
    let answer = c.in_ok-greater.ensures in
    (answer.0, (inl (c.same.ensures.0 c.if-same.true), λ greater. let yes = (answer.1).1 greater in absurd (cc (yes, c.if-greater.false))))

pub returns : goal.returns
returns g c =
    let answer = c.in_ok-greater.ensures in (
      answer.0,
      not_weak (g.W.Weighting.weights c.args.order.now) (g.W.Weighting.ranks c.args.order.now) (tree c.args.s.now) (tree c.args.t.now)
          (λ same. let yes = c.same.ensures.1 same in absurd (cc (yes, c.if-same.false))) (λ greater. let yes = (answer.1).1 greater in absurd (cc (yes, c.if-greater.false))),
    )
