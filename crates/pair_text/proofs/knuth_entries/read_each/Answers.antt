use Rattle.std.proofs.Common.{sym, ◌∙◌}
use Rattle.kbo_order.specs.Table.{symbol_of}
use Rattle.pair_text.specs.Entries.{with_symbol_of}
use Rattle.pair_text.proofs.InTurnLaws.{one_more_in_turn}
use Rattle.pair_text.specs.KnuthEntries.{kbo_entry}
use Rattle.pair_text.proofs.knuth_entries.read_each.Goals as goal

pub loop-item-preserved : goal.loop-item-preserved
loop-item-preserved c =
    let named = c.args.system.now in
    let reads = sym c.in_ok-entry.ensures.entry ∙ c.in-Ok.is in
    let known = rw c.in-Ok.is at c.in_ok-entry.ensures.known in
    rw c.in_ok-push-in-Ok.ensures.items
    (one_more_in_turn (with_symbol_of symbol_of) (kbo_entry named) c.loop-item.entries.items c.loop-item.known c.read_kbo_entry.new.known c.args.items.now c.item-item.result c.loop-item.item-index c.in-Ok.entry _
    c.loop-item-test.true c.item-item.is reads known c.loop-item.invariant)
