use Rattle.std.proofs.Common.{◌≡◌, Ok, drop}
use Rattle.sexp_core.specs.Items.{views}
use Rattle.text_reading.specs.Seen.{joined}
use Rattle.kbo_order.specs.Table.{symbol_of}
use Rattle.pair_text.specs.InTurn.{in_turn}
use Rattle.pair_text.specs.Entries.{with_symbol_of, entries}
use Rattle.pair_text.specs.KnuthEntries.{kbo_entry}
use Rattle.pair_text.proofs.knuth_entries.read_each.Given as goal

abbrev pub invariant-loop-item : goal.invariant-loop-item
invariant-loop-item l =
    joined (Ok l.entries.items) (in_turn (with_symbol_of symbol_of) (kbo_entry l.system) (views (drop l.item-index l.items)) l.known)
    ≡ entries symbol_of (kbo_entry l.system) (views l.items)
