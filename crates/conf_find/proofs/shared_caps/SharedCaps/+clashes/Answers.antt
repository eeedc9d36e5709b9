use Rattle.std.proofs.Common.{length, ap, arith}
use Rattle.term_pool.proofs.MatchSteps.{read_again}
use Rattle.trs_caps.specs.Clash.{clash}
use Rattle.conf_find.specs.SharedCaps.{cap_at}
use Rattle.conf_find.proofs.SharedCapLaws.{same_number_clash, open_left, open_right, both_own, own_left, own_right, both_symbols, unlike_clash, like_clash, this_clashes, this_does_not, no_more_clash}
use Rattle.conf_find.proofs.shared_caps.SharedCaps.+clashes.Goals.{then-f-g-via-then-f-g, then-f-g-via-else-f-g+then-lefts-rights}
use Rattle.conf_find.proofs.shared_caps.SharedCaps.+clashes.Goals as goal

pub returns-then-left-right : goal.returns-then-left-right
returns-then-left-right t c = same_number_clash c.args.self.now c.args.left c.args.right c.if-left-right.true

pub returns-in-Open-default : goal.returns-in-Open-default
returns-in-Open-default t c = open_left c.args.self.now c.args.left c.args.right c.node.result.now c.node-2.result.now c.node.ensures.is c.node-2.ensures.is c.in-Open-default.is-0

pub returns-in_default-Open : goal.returns-in_default-Open
returns-in_default-Open t c = open_right c.args.self.now c.args.left c.args.right c.node.result.now c.node-2.result.now c.node.ensures.is c.node-2.ensures.is c.in_default-Open.is-1

pub returns-in_default-Open-2 : goal.returns-in_default-Open-2
returns-in_default-Open-2 t c = open_right c.args.self.now c.args.left c.args.right c.node.result.now c.node-2.result.now c.node.ensures.is c.node-2.ensures.is c.in_default-Open.is-1

pub returns-in-Own-Own : goal.returns-in-Own-Own
returns-in-Own-Own t c =
    both_own c.args.self.now c.args.left c.args.right c.node.result.now c.node-2.result.now c.node.ensures.is c.node-2.ensures.is c.in-Own-Own.v c.in-Own-Own.w c.in-Own-Own.is-0 c.in-Own-Own.is-1

pub returns-in-Own-Symbol : goal.returns-in-Own-Symbol
returns-in-Own-Symbol t c =
    own_left c.args.self.now c.args.left c.args.right c.node.result.now c.node-2.result.now c.node.ensures.is c.node-2.ensures.is _ _ _ c.in-Own-Symbol.is-0 c.in-Own-Symbol.is-1

pub returns-in-Symbol-Own : goal.returns-in-Symbol-Own
returns-in-Symbol-Own t c =
    own_right c.args.self.now c.args.left c.args.right c.node.result.now c.node-2.result.now c.node.ensures.is c.node-2.ensures.is _ _ _ c.in-Symbol-Own.is-0 c.in-Symbol-Own.is-1

pub returns-then-f-g : goal.returns-then-f-g
returns-then-f-g t c =
    let a = c.in-Symbol-Symbol in
    let whole = both_symbols c.args.self.now c.args.left c.args.right c.node.result.now c.node-2.result.now c.node.ensures.is c.node-2.ensures.is a.f a.g a.cs a.ds a.is-0 a.is-1 in
    unlike_clash c.args.self.now (clash (cap_at c.args.self.now c.args.left) (cap_at c.args.self.now c.args.right)) a.f a.g a.cs.items a.ds.items whole (elim c.then-f-g.branch [
      | then-f-g-via-then-f-g w ↦ λ same l. w.if-f-g.true same
      | then-f-g-via-else-f-g+then-lefts-rights w ↦ λ same l. w.if-lefts-rights.true (omega (arith, l, ap length c.as_slice-lefts.ensures.value, ap length c.as_slice-rights.ensures.value))
    ])

pub loop-i-init : goal.loop-i-init
loop-i-init t c =
    let a = c.in-Symbol-Symbol in
    let whole = both_symbols c.args.self.now c.args.left c.args.right c.node.result.now c.node-2.result.now c.node.ensures.is c.node-2.ensures.is a.f a.g a.cs a.ds a.is-0 a.is-1 in
    let rest = like_clash c.args.self.now (clash (cap_at c.args.self.now c.args.left) (cap_at c.args.self.now c.args.right)) a.f a.g a.cs.items a.ds.items whole c.if-f-g.false in
    record { as_long = omega arith; rest = rw (c.as_slice-lefts.ensures.value, c.as_slice-rights.ensures.value) rest }

pub returns-then-clashes : goal.returns-then-clashes
returns-then-clashes t c =
    let h = c.loop-i.invariant in
    this_clashes c.args.self.now c.as_slice-lefts.result.now c.as_slice-rights.result.now c.loop-i.i _ _ (clash (cap_at c.args.self.now c.args.left) (cap_at c.args.self.now c.args.right)) c.clashes.result
    c.loop-i-test.true h.as_long (read_again c.as_slice-lefts.result.now c.loop-i.i c.loop-i-test.true) (read_again c.as_slice-rights.result.now c.loop-i.i (omega (arith, c.loop-i-test.true, h.as_long)))
    h.rest c.clashes.ensures c.if-clashes.true

pub loop-i-preserved : goal.loop-i-preserved
loop-i-preserved t c =
    let h = c.loop-i.invariant in
    record {
      as_long = h.as_long;
      rest = this_does_not c.args.self.now c.as_slice-lefts.result.now c.as_slice-rights.result.now c.loop-i.i _ _ (clash (cap_at c.args.self.now c.args.left) (cap_at c.args.self.now c.args.right)) c.clashes.result
          c.loop-i-test.true h.as_long (read_again c.as_slice-lefts.result.now c.loop-i.i c.loop-i-test.true) (read_again c.as_slice-rights.result.now c.loop-i.i (omega (arith, c.loop-i-test.true, h.as_long)))
          h.rest c.clashes.ensures c.if-clashes.false;
    }

pub returns-after-loop-i : goal.returns-after-loop-i
returns-after-loop-i t c =
    let h = c.loop-i.invariant in
    no_more_clash c.args.self.now c.as_slice-lefts.result.now c.as_slice-rights.result.now c.loop-i.i (clash (cap_at c.args.self.now c.args.left) (cap_at c.args.self.now c.args.right))
    c.loop-i-test.false h.as_long h.rest
