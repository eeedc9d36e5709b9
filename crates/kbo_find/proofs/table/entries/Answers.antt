use Rattle.std.proofs.Common.{get_or, refl}
use Rattle.order_search.specs.OrderSpace.{arity_with_mark}
use Rattle.kbo_find.proofs.TableSteps.{one_entry_more}
use Rattle.kbo_find.proofs.table.entries.Goals as goal

pub loop-i-preserved : goal.loop-i-preserved
loop-i-preserved c =
    let f = get_or c.args.symbols.now c.loop-i.i 0 in
    one_entry_more (arity_with_mark c.args.arities.now) c.args.symbols.now c.args.values.now c.requires c.loop-i.i f c.arity_of.result c.value_at-weight.result
    c.value_at-rank.result c.entry.result c.loop-i.entries.items c.push.new.self.items c.loop-i-test.true refl c.arity_of.ensures.value c.value_at-weight.ensures
    c.value_at-rank.ensures c.entry.ensures c.in_ok-push.ensures.items c.loop-i.invariant
