use Rattle.std.proofs.Common.{◌≡◌, ap, subst, sym, refl}
use Rattle.trs_defs.specs.Tree.{trees, app}
use Rattle.trs_core.specs.View.{tree, forest}
use Rattle.rewrite_core.proofs.RedexWalk.{applied}
use Rattle.crit_pairs.specs.Meeting.{Ends}
use Rattle.crit_pairs.proofs.Bindings.{next_ends, none_left_ends}
use Rattle.crit_pairs.proofs.PutIn.{unbound_ends, bound_ends}
use Rattle.crit_pairs.proofs.meeting.+leads_out.Goals as goal

pub returns-in-None : goal.returns-in-None
returns-in-None t c = λ _.
    subst (Ends c.args.levels c.args.bindings.now.list.items) (sym (ap tree c.in-Var.is)) (unbound_ends c.args.levels c.args.bindings.now.list.items c.in-Var.v (sym c.in-None.ensures))

pub returns-else-nodes-size : goal.returns-else-nodes-size
returns-else-nodes-size t c = λ yes.
    subst (Ends c.args.levels c.args.bindings.now.list.items) (sym (ap tree c.in-Var.is))
    (bound_ends c.args.levels c.args.bindings.now.list.items c.in-Var.v (tree c.in-Some.bound.now) c.if-levels-eq0.false (sym c.in-Some.ensures) (c.leads_out.ensures yes))

pub loop-arg-preserved : goal.loop-arg-preserved
loop-arg-preserved t c = λ rest.
    c.loop-arg.invariant (next_ends c.args.levels c.args.bindings.now.list.items c.deref-arg-items.result.now c.loop-arg.arg-index c.arg-item.result c.loop-arg-test.true c.arg-item.is
    (c.if-not-leads_out.ensures refl) rest)

pub returns-after-loop-arg : goal.returns-after-loop-arg
returns-after-loop-arg t c = λ _.
    let is : tree c.args.t.now ≡ app c.in-App.field-0 (forest c.deref-arg-items.result.now) =
    applied c.deref-arg-items.result.now c.in-App.field-0 _ (tree c.args.t.now) (rw c.deref-arg-items.ensures.value (ap trees c.args-in-App.view_is)) (ap tree c.in-App.is) in
    subst (Ends c.args.levels c.args.bindings.now.list.items) (sym is)
    (c.loop-arg.invariant (none_left_ends c.args.levels c.args.bindings.now.list.items c.deref-arg-items.result.now c.loop-arg.arg-index c.loop-arg-test.false))
