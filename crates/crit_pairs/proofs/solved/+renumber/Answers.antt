use Rattle.std.proofs.Common.{◌≡◌, IfOk, ap, subst, sym, arith, refl, map}
use Rattle.trs_defs.specs.Tree.{app}
use Rattle.trs_defs.specs.Substitution.{apply, apply_all}
use Rattle.trs_core.specs.View.{tree, forest}
use Rattle.trs_unify.specs.Renamed.{IsRenamed}
use Rattle.trs_unify.proofs.Rooms.{argument_smaller}
use Rattle.trs_unify.proofs.NewNames.{renaming_begins, renaming_goes_on, renaming_ends, built_more, next_instance, no_instance_left}
use Rattle.crit_pairs.specs.Meeting.{put_in}
use Rattle.crit_pairs.proofs.PutIn.{unbound_instance, last_instance, further_instance, bound_measure, argument_measure}
use Rattle.crit_pairs.proofs.solved.+renumber.Goals as goal

pub renumber-requires : goal.renumber-requires
renumber-requires t c =
    (omega (arith, bound_measure c.args.levels c.args.bindings.now.list.items c.in-Var.v (tree c.in-Some.bound.now) (tree c.args.t.now) c.if-levels-eq0.false (sym c.in-Some.ensures), c.decreases), c.requires)

pub renumber-requires-in-loop-arg : goal.renumber-requires-in-loop-arg
renumber-requires-in-loop-arg t c =
    let is : tree c.args.t.now ≡ app c.in-App.f (forest c.deref-arg-items.result.now) = rw (c.in-App.is, ← c.args-in-App.view_is, c.deref-arg-items.ensures.value) refl in
    let smaller = argument_smaller c.in-App.f (tree c.args.t.now) c.deref-arg-items.result.now c.loop-arg.arg-index c.arg-item.result is c.loop-arg-test.true c.arg-item.is in
    (omega (arith, argument_measure c.args.levels c.args.bindings.now.list.items (tree c.arg-item.result) (tree c.args.t.now) smaller, c.decreases), c.loop-arg.invariant.distinct)

pub loop-arg-init : goal.loop-arg-init
loop-arg-init t c =
    let is : tree c.args.t.now ≡ app c.in-App.f (forest c.deref-arg-items.result.now) = rw (c.in-App.is, ← c.args-in-App.view_is, c.deref-arg-items.ensures.value) refl in
    record {
      distinct = c.requires;
      renaming = renaming_begins c.args.names.now.order.items c.in-App.f _ _ (apply_all (put_in c.args.levels c.args.bindings.now.list.items) (forest c.deref-arg-items.result.now)) (ap (map tree) c.in_ok-built-in-App.ensures.items) (ap (apply (put_in c.args.levels c.args.bindings.now.list.items)) is);
    }

pub loop-arg-preserved : goal.loop-arg-preserved
loop-arg-preserved t c = record {
  distinct = c.in_ok-renumber-in-App.ensures.distinct;
  renaming = renaming_goes_on c.args.names.now.order.items c.loop-arg.names.order.items c.renumber-in-loop-arg.new.names.order.items c.in-App.f _ _ _ _ _ _ _
      (next_instance (put_in c.args.levels c.args.bindings.now.list.items) c.deref-arg-items.result.now c.loop-arg.arg-index c.arg-item.result c.loop-arg-test.true c.arg-item.is)
      (built_more c.loop-arg.built.items c.push.new.self.items c.in_ok-renumber-in-App.field-0 c.in_ok-push-in-App.ensures.items)
      c.loop-arg.invariant.renaming c.in_ok-renumber-in-App.ensures.renamed;
}

pub returns-after-loop-arg-clause-renamed : goal.returns-after-loop-arg-clause-renamed
returns-after-loop-arg-clause-renamed t c =
    renaming_ends c.args.names.now.order.items c.loop-arg.names.order.items c.in-App.f _ _ _
    (no_instance_left (put_in c.args.levels c.args.bindings.now.list.items) c.deref-arg-items.result.now c.loop-arg.arg-index c.loop-arg-test.false) c.loop-arg.invariant.renaming

pub returns-in-None-clause-renamed : goal.returns-in-None-clause-renamed
returns-in-None-clause-renamed t c =
    subst (λ z. IfOk c.number_variable.result (λ u. IsRenamed c.args.names.now.order.items c.number_variable.new.names.order.items z (tree u)))
    (sym (unbound_instance c.args.levels c.args.bindings.now.list.items c.in-Var.v (tree c.args.t.now) (ap tree c.in-Var.is) (sym c.in-None.ensures)))
    c.number_variable.ensures.renamed

pub returns-then-levels-eq0-clause-renamed : goal.returns-then-levels-eq0-clause-renamed
returns-then-levels-eq0-clause-renamed t c =
    subst (λ z. IfOk c.number_variables.result (λ u. IsRenamed c.args.names.now.order.items c.number_variables.new.names.order.items z (tree u)))
    (sym (last_instance c.args.levels c.args.bindings.now.list.items c.in-Var.v (tree c.args.t.now) (tree c.in-Some.bound.now) (ap tree c.in-Var.is) c.if-levels-eq0.true (sym c.in-Some.ensures)))
    c.number_variables.ensures.renamed

pub returns-else-levels-eq0-clause-renamed : goal.returns-else-levels-eq0-clause-renamed
returns-else-levels-eq0-clause-renamed t c =
    subst (λ z. IfOk c.renumber.result (λ u. IsRenamed c.args.names.now.order.items c.renumber.new.names.order.items z (tree u)))
    (sym (further_instance c.args.levels c.args.bindings.now.list.items c.in-Var.v (tree c.args.t.now) (tree c.in-Some.bound.now) (ap tree c.in-Var.is) c.if-levels-eq0.false (sym c.in-Some.ensures)))
    c.renumber.ensures.renamed
