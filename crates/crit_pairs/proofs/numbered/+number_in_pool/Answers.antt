use Rattle.std.proofs.Common.{drop, ap, ◌∙◌}
use Rattle.std.proofs.lemmas.List.{drop_all}
use Rattle.trs_defs.proofs.ArgumentLists.{cell}
use Rattle.trs_core.specs.View.{forest}
use Rattle.term_pool.proofs.Extending.{extends_on}
use Rattle.term_pool.proofs.KnownLaws.{on_ok}
use Rattle.trs_unify.proofs.NewNames.{renaming_goes_on, renaming_ends}
use Rattle.crit_pairs.proofs.VariableIds.{variable_ids_on}
use Rattle.crit_pairs.proofs.NumberedIds.{id_behind, all_below, ids_more, renamed_id, id_there}
use Rattle.crit_pairs.proofs.numbered.+number_in_pool.Goals as goal

pub loop-arg-preserved : goal.loop-arg-preserved
loop-arg-preserved t c =
    let calls = c.in_ok-id-in-App.ensures in
    let next = c.number_in_pool.new in
    let ids = drop c.len-start.result c.loop-arg.arguments.items in
    let more = drop c.len-start.result c.push.new.self.items in
    let pushed = id_behind c.len-start.result c.loop-arg.arguments.items next.arguments.items c.push.new.self.items c.in_ok-id-in-App.id c.loop-arg.invariant.behind calls.arguments c.in_ok-push-in-App.ensures.items in
    record {
      distinct = calls.distinct;
      kept = extends_on c.args.pool.now c.loop-arg.pool next.pool c.loop-arg.invariant.kept calls.kept;
      ids = calls.ids;
      behind = pushed.behind;
      before = pushed.before ∙ c.loop-arg.invariant.before;
      below = all_below c.loop-arg.pool next.pool ids more c.in_ok-id-in-App.id calls.kept c.loop-arg.invariant.below calls.there pushed.last;
      renaming = renaming_goes_on c.args.names.now.order.items c.loop-arg.names.order.items next.names.order.items c.in-App.f _ _ _ _ _ _ _
          (ap forest (cell c.deref-arg-items.result.now c.loop-arg.arg-index c.arg-item.result c.loop-arg-test.true c.arg-item.is))
          (ids_more c.loop-arg.pool next.pool ids more c.in_ok-id-in-App.id calls.kept c.loop-arg.invariant.below calls.there pushed.last)
          c.loop-arg.invariant.renaming calls.renamed;
    }

pub returns-after-loop-arg-clause-renamed : goal.returns-after-loop-arg-clause-renamed
returns-after-loop-arg-clause-renamed t c =
    renamed_id c.apply_from.result c.args.names.now.order.items c.loop-arg.names.order.items c.apply_from.new.pool _ _ c.apply_from.ensures.id
    (renaming_ends c.args.names.now.order.items c.loop-arg.names.order.items c.in-App.f _ _ _
    (ap forest (drop_all c.loop-arg.arg-index c.deref-arg-items.result.now c.loop-arg-test.false)) c.loop-arg.invariant.renaming)

pub returns-after-loop-arg-clause-there : goal.returns-after-loop-arg-clause-there
returns-after-loop-arg-clause-there t c = id_there c.apply_from.result c.apply_from.new.pool _ c.apply_from.ensures.id

pub returns-after-loop-arg-clause-ids : goal.returns-after-loop-arg-clause-ids
returns-after-loop-arg-clause-ids t c =
    on_ok c.apply_from.result (variable_ids_on c.loop-arg.pool c.apply_from.new.pool c.loop-arg.numbered c.apply_from.ensures.kept c.loop-arg.invariant.ids)
