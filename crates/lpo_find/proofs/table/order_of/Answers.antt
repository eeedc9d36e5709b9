use Rattle.std.proofs.Common.{get_or, refl}
use Rattle.path_lpo.specs.Plain.{plain}
use Rattle.order_search.specs.OrderSpace.{arity_with_mark}
use Rattle.lpo_find.proofs.TableSteps.{one_entry_more, entry_by_arity}
use Rattle.lpo_find.proofs.table.order_of.Goals as goal

pub loop-i-preserved : goal.loop-i-preserved
loop-i-preserved c =
    let arity = arity_with_mark c.args.arities.now in
    let f = get_or c.args.symbols.now c.loop-i.i 0 in
    one_entry_more arity c.args.symbols.now c.args.values.now c.requires c.loop-i.i f c.in_ok-entry.field-0 c.value_at-filter.result c.value_at-rank.result
    c.loop-i.entries.items c.push.new.self.items c.loop-i-test.true refl c.value_at-filter.ensures c.value_at-rank.ensures
    (entry_by_arity (plain c.in_ok-entry.field-0) f c.value_at-filter.result c.value_at-rank.result c.arity_of.result (arity f) c.in_ok-entry.ensures c.arity_of.ensures.value)
    c.in_ok-push.ensures.items c.loop-i.invariant
