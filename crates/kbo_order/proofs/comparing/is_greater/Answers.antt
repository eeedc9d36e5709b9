use Rattle.std.proofs.Common.{◌<◌, ◌^◌, ◌+◌, ◌-◌, subst, sym, arith}
use Rattle.std.proofs.lemmas.Result.{err_from_is_err_and}
use Rattle.trs_defs.proofs.LeastVariables.{least_is_from}
use Rattle.trs_core.specs.View.{tree}
use Rattle.kbo_order.specs.declared.comparing.TheConstants.{FIRST_WINDOW, SECOND_WINDOW, LATER_WINDOW}
use Rattle.kbo_order.proofs.Viewers.{SeenBelow, either_big, seen_first, seen_more, seen_all, unseen}
use Rattle.kbo_order.proofs.comparing.is_greater.Goals as goal

pub returns-in_err-first : goal.returns-in_err-first
returns-in_err-first g c =
    let p = err_from_is_err_and c.from_residual.result c.from_residual.ensures.1 in
    rw p.1 (either_big (g.W.Weighting.weights c.args.order.now) (tree c.args.s.now) (tree c.args.t.now) c.in_err-first.ensures)

pub returns-then-not-first : goal.returns-then-not-first
returns-then-not-first g c =
    unseen (g.W.Weighting.weights c.args.order.now) (g.W.Weighting.ranks c.args.order.now) (tree c.args.s.now) (tree c.args.t.now) FIRST_WINDOW 0 c.in_ok-first.first c.in_ok-first.ensures c.if-not-first.true

pub returns-in_default : goal.returns-in_default
returns-in_default g c =
    let w = g.W.Weighting.weights c.args.order.now in
    let r = g.W.Weighting.ranks c.args.order.now in
    let s = tree c.args.s.now in
    let t = tree c.args.t.now in
    seen_all w r s t FIRST_WINDOW (seen_first w r s t FIRST_WINDOW c.in_ok-first.first (omega arith) c.in_ok-first.ensures c.if-not-first.false) c.least_variable.result c.least_variable.ensures c.in_default.is

pub returns-then-not-second : goal.returns-then-not-second
returns-then-not-second g c =
    unseen (g.W.Weighting.weights c.args.order.now) (g.W.Weighting.ranks c.args.order.now) (tree c.args.s.now) (tree c.args.t.now) SECOND_WINDOW c.in-Some.y c.in_ok-second.second c.in_ok-second.ensures c.if-not-second.true

pub loop-x-init : goal.loop-x-init
loop-x-init g c =
    let w = g.W.Weighting.weights c.args.order.now in
    let r = g.W.Weighting.ranks c.args.order.now in
    let s = tree c.args.s.now in
    let t = tree c.args.t.now in
    let first = seen_first w r s t FIRST_WINDOW c.in_ok-first.first (omega arith) c.in_ok-first.ensures c.if-not-first.false in
    subst (λ n. SeenBelow w r s t (n + SECOND_WINDOW)) (sym c.from.ensures)
    (seen_more w r s t FIRST_WINDOW first c.least_variable.result c.least_variable.ensures SECOND_WINDOW c.in-Some.y c.in_ok-second.second c.in-Some.is c.in_ok-second.ensures c.if-not-second.false)

pub returns-then-not-next : goal.returns-then-not-next
returns-then-not-next g c =
    unseen (g.W.Weighting.weights c.args.order.now) (g.W.Weighting.ranks c.args.order.now) (tree c.args.s.now) (tree c.args.t.now) LATER_WINDOW c.in-Some-least_variable.x c.in_ok-next.next c.in_ok-next.ensures c.if-not-next.true

pub loop-x-smaller : goal.loop-x-smaller
loop-x-smaller g c =
    let from_le = least_is_from c.loop-x.from (tree c.args.t.now) c.least_variable-in-loop-x.result c.least_variable-in-loop-x.ensures c.in-Some-least_variable.x c.in-Some-least_variable.is in
    let less : 2 ^ 64 - (c.from-in-Some-least_variable.result + LATER_WINDOW) < 2 ^ 64 - c.loop-x.from = omega arith in less

pub loop-x-preserved : goal.loop-x-preserved
loop-x-preserved g c =
    let w = g.W.Weighting.weights c.args.order.now in
    let r = g.W.Weighting.ranks c.args.order.now in
    let s = tree c.args.s.now in
    let t = tree c.args.t.now in
    subst (λ n. SeenBelow w r s t (n + LATER_WINDOW)) (sym c.from-in-Some-least_variable.ensures)
    (seen_more w r s t c.loop-x.from c.loop-x.invariant c.least_variable-in-loop-x.result c.least_variable-in-loop-x.ensures LATER_WINDOW c.in-Some-least_variable.x c.in_ok-next.next c.in-Some-least_variable.is
    c.in_ok-next.ensures c.if-not-next.false)

pub returns : goal.returns
returns g c =
    seen_all (g.W.Weighting.weights c.args.order.now) (g.W.Weighting.ranks c.args.order.now) (tree c.args.s.now) (tree c.args.t.now) c.loop-x.from c.loop-x.invariant
    c.least_variable-in-loop-x.result c.least_variable-in-loop-x.ensures c.in_default-least_variable.is
