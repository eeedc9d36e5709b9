use Rattle.std.proofs.Common.{◌≡◌, OnOk, ap, subst, sym, refl, arith}
use Rattle.std.proofs.lemmas.List.{drop_all}
use Rattle.trs_defs.specs.Tree.{app}
use Rattle.trs_defs.specs.Variable.{with_variables}
use Rattle.trs_defs.proofs.ArgumentLists.{cell}
use Rattle.trs_core.specs.View.{tree, forest}
use Rattle.trs_unify.proofs.Rooms.{argument_smaller}
use Rattle.crit_pairs.proofs.PutIn.{unbound_instance, last_instance, further_instance, bound_measure, argument_measure}
use Rattle.crit_pairs.proofs.solved.+name_instance.Goals as goal

pub loop-arg-init : goal.loop-arg-init
loop-arg-init t c = record { distinct = c.requires; order = rw (c.deref-arg-items.ensures.value, c.in-App.is, ← c.args-in-App.view_is) refl }

pub loop-arg-preserved : goal.loop-arg-preserved
loop-arg-preserved t c =
    let next = cell c.deref-arg-items.result.now c.loop-arg.arg-index c.arg-item.result c.loop-arg-test.true c.arg-item.is in
    record {
      distinct = c.in_ok-name_instance-in-App.ensures.distinct;
      order = rw c.in_ok-name_instance-in-App.ensures.order (rw next at c.loop-arg.invariant.order);
    }

pub returns-after-loop-arg-clause-order : goal.returns-after-loop-arg-clause-order
returns-after-loop-arg-clause-order t c =
    rw (drop_all c.loop-arg.arg-index c.deref-arg-items.result.now (omega arith)) at c.loop-arg.invariant.order

pub name_instance-requires : goal.name_instance-requires
name_instance-requires t c =
    (omega (arith, bound_measure c.args.levels c.args.bindings.now.list.items c.in-Var.v (tree c.in-Some.bound.now) (tree c.args.t.now) c.if-levels-eq0.false (sym c.in-Some.ensures), c.decreases), c.requires)

pub name_instance-requires-in-loop-arg : goal.name_instance-requires-in-loop-arg
name_instance-requires-in-loop-arg t c =
    let is : tree c.args.t.now ≡ app c.in-App.field-0 (forest c.deref-arg-items.result.now) = rw (c.in-App.is, ← c.args-in-App.view_is, c.deref-arg-items.ensures.value) refl in
    let smaller = argument_smaller c.in-App.field-0 (tree c.args.t.now) c.deref-arg-items.result.now c.loop-arg.arg-index c.arg-item.result is c.loop-arg-test.true c.arg-item.is in
    (omega (arith, argument_measure c.args.levels c.args.bindings.now.list.items (tree c.arg-item.result) (tree c.args.t.now) smaller, c.decreases), c.loop-arg.invariant.distinct)

pub returns-in_ok-number_of-in-None-clause-order : goal.returns-in_ok-number_of-in-None-clause-order
returns-in_ok-number_of-in-None-clause-order t c =
    subst (λ z. c.number_of.new.names.order.items ≡ with_variables c.args.names.now.order.items z)
    (sym (unbound_instance c.args.levels c.args.bindings.now.list.items c.in-Var.v (tree c.args.t.now) (ap tree c.in-Var.is) (sym c.in-None.ensures)))
    c.in_ok-number_of-in-None.ensures.order

pub returns-then-levels-eq0-clause-order : goal.returns-then-levels-eq0-clause-order
returns-then-levels-eq0-clause-order t c =
    subst (λ z. OnOk c.name_variables.result (c.name_variables.new.names.order.items ≡ with_variables c.args.names.now.order.items z))
    (sym (last_instance c.args.levels c.args.bindings.now.list.items c.in-Var.v (tree c.args.t.now) (tree c.in-Some.bound.now) (ap tree c.in-Var.is) c.if-levels-eq0.true (sym c.in-Some.ensures)))
    c.name_variables.ensures.order

pub returns-else-levels-eq0-clause-order : goal.returns-else-levels-eq0-clause-order
returns-else-levels-eq0-clause-order t c =
    subst (λ z. OnOk c.name_instance.result (c.name_instance.new.names.order.items ≡ with_variables c.args.names.now.order.items z))
    (sym (further_instance c.args.levels c.args.bindings.now.list.items c.in-Var.v (tree c.args.t.now) (tree c.in-Some.bound.now) (ap tree c.in-Var.is) c.if-levels-eq0.false (sym c.in-Some.ensures)))
    c.name_instance.ensures.order
