use Rattle.std.proofs.Common.{◌≡◌, IfOk, drop, ap, subst, sym, ◌∙◌, arith, refl}
use Rattle.trs_defs.specs.Tree.{app}
use Rattle.trs_core.specs.View.{tree, forest}
use Rattle.term_pool.specs.Pooled.{tree_at}
use Rattle.term_pool.proofs.Extending.{extends_on}
use Rattle.term_pool.proofs.KnownLaws.{on_ok}
use Rattle.trs_unify.specs.Renamed.{IsRenamed}
use Rattle.trs_unify.proofs.Rooms.{argument_smaller}
use Rattle.trs_unify.proofs.NewNames.{renaming_goes_on, renaming_ends, next_instance, no_instance_left}
use Rattle.crit_pairs.specs.Meeting.{put_in}
use Rattle.crit_pairs.proofs.PutIn.{unbound_instance, last_instance, further_instance, bound_measure, argument_measure}
use Rattle.crit_pairs.proofs.VariableIds.{variable_ids_on}
use Rattle.crit_pairs.proofs.NumberedIds.{id_behind, all_below, ids_more, renamed_id, id_there}
use Rattle.crit_pairs.proofs.numbered.+renumber_in_pool.Goals as goal

pub renumber_in_pool-requires : goal.renumber_in_pool-requires
renumber_in_pool-requires t c =
    (omega (arith, bound_measure c.args.levels c.args.bindings.now.list.items c.in-Var.v (tree c.in-Some.bound.now) (tree c.args.t.now) c.if-levels-eq0.false (sym c.in-Some.ensures), c.decreases), (c.requires.distinct, c.requires.ids))

pub renumber_in_pool-requires-in-loop-arg : goal.renumber_in_pool-requires-in-loop-arg
renumber_in_pool-requires-in-loop-arg t c =
    let is : tree c.args.t.now ≡ app c.in-App.f (forest c.deref-arg-items.result.now) = rw (c.in-App.is, ← c.args-in-App.view_is, c.deref-arg-items.ensures.value) refl in
    let smaller = argument_smaller c.in-App.f (tree c.args.t.now) c.deref-arg-items.result.now c.loop-arg.arg-index c.arg-item.result is c.loop-arg-test.true c.arg-item.is in
    (omega (arith, argument_measure c.args.levels c.args.bindings.now.list.items (tree c.arg-item.result) (tree c.args.t.now) smaller, c.decreases), (c.loop-arg.invariant.distinct, c.loop-arg.invariant.ids))

pub loop-arg-preserved : goal.loop-arg-preserved
loop-arg-preserved t c =
    let calls = c.in_ok-id-in-App.ensures in
    let next = c.renumber_in_pool-in-loop-arg.new in
    let ids = drop c.len-start.result c.loop-arg.arguments.items in
    let more = drop c.len-start.result c.push.new.self.items in
    let pushed = id_behind c.len-start.result c.loop-arg.arguments.items next.arguments.items c.push.new.self.items c.in_ok-id-in-App.id c.loop-arg.invariant.behind calls.arguments c.in_ok-push-in-App.ensures.items in
    record {
      distinct = calls.distinct;
      kept = extends_on c.args.pool.now c.loop-arg.pool next.pool c.loop-arg.invariant.kept calls.kept;
      ids = calls.ids;
      behind = pushed.behind;
      before = pushed.before ∙ c.loop-arg.invariant.before;
      below = all_below c.loop-arg.pool next.pool ids more c.in_ok-id-in-App.id calls.kept c.loop-arg.invariant.below calls.there pushed.last;
      renaming = renaming_goes_on c.args.names.now.order.items c.loop-arg.names.order.items next.names.order.items c.in-App.f _ _ _ _ _ _ _
          (next_instance (put_in c.args.levels c.args.bindings.now.list.items) c.deref-arg-items.result.now c.loop-arg.arg-index c.arg-item.result c.loop-arg-test.true c.arg-item.is)
          (ids_more c.loop-arg.pool next.pool ids more c.in_ok-id-in-App.id calls.kept c.loop-arg.invariant.below calls.there pushed.last)
          c.loop-arg.invariant.renaming calls.renamed;
    }

pub returns-after-loop-arg-clause-renamed : goal.returns-after-loop-arg-clause-renamed
returns-after-loop-arg-clause-renamed t c =
    renamed_id c.apply_from.result c.args.names.now.order.items c.loop-arg.names.order.items c.apply_from.new.pool _ _ c.apply_from.ensures.id
    (renaming_ends c.args.names.now.order.items c.loop-arg.names.order.items c.in-App.f _ _ _
    (no_instance_left (put_in c.args.levels c.args.bindings.now.list.items) c.deref-arg-items.result.now c.loop-arg.arg-index c.loop-arg-test.false) c.loop-arg.invariant.renaming)

pub returns-after-loop-arg-clause-there : goal.returns-after-loop-arg-clause-there
returns-after-loop-arg-clause-there t c = id_there c.apply_from.result c.apply_from.new.pool _ c.apply_from.ensures.id

pub returns-in-None-clause-renamed : goal.returns-in-None-clause-renamed
returns-in-None-clause-renamed t c =
    subst (λ z. IfOk c.number_variable_in_pool.result (λ id. IsRenamed c.args.names.now.order.items c.number_variable_in_pool.new.names.order.items z (tree_at c.number_variable_in_pool.new.pool id)))
    (sym (unbound_instance c.args.levels c.args.bindings.now.list.items c.in-Var.v (tree c.args.t.now) (ap tree c.in-Var.is) (sym c.in-None.ensures)))
    c.number_variable_in_pool.ensures.renamed

pub returns-then-levels-eq0-clause-renamed : goal.returns-then-levels-eq0-clause-renamed
returns-then-levels-eq0-clause-renamed t c =
    subst (λ z. IfOk c.number_in_pool.result (λ id. IsRenamed c.args.names.now.order.items c.number_in_pool.new.names.order.items z (tree_at c.number_in_pool.new.pool id)))
    (sym (last_instance c.args.levels c.args.bindings.now.list.items c.in-Var.v (tree c.args.t.now) (tree c.in-Some.bound.now) (ap tree c.in-Var.is) c.if-levels-eq0.true (sym c.in-Some.ensures)))
    c.number_in_pool.ensures.renamed

pub returns-else-levels-eq0-clause-renamed : goal.returns-else-levels-eq0-clause-renamed
returns-else-levels-eq0-clause-renamed t c =
    subst (λ z. IfOk c.renumber_in_pool.result (λ id. IsRenamed c.args.names.now.order.items c.renumber_in_pool.new.names.order.items z (tree_at c.renumber_in_pool.new.pool id)))
    (sym (further_instance c.args.levels c.args.bindings.now.list.items c.in-Var.v (tree c.args.t.now) (tree c.in-Some.bound.now) (ap tree c.in-Var.is) c.if-levels-eq0.false (sym c.in-Some.ensures)))
    c.renumber_in_pool.ensures.renamed

pub returns-after-loop-arg-clause-ids : goal.returns-after-loop-arg-clause-ids
returns-after-loop-arg-clause-ids t c =
    on_ok c.apply_from.result (variable_ids_on c.loop-arg.pool c.apply_from.new.pool c.loop-arg.numbered c.apply_from.ensures.kept c.loop-arg.invariant.ids)
