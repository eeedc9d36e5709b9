use Rattle.std.proofs.Common.{◌≡◌, Ok, drop, map}
use Rattle.sexp_core.specs.Items.{views}
use Rattle.text_reading.specs.Seen.{joined}
use Rattle.poly_lin.specs.Table.{symbol_of}
use Rattle.poly_lin.specs.Plain.{plain}
use Rattle.pair_text.specs.InTurn.{in_turn}
use Rattle.pair_text.specs.Entries.{with_symbol_of}
use Rattle.pair_text.specs.LinearEntries.{linear_entry, linear_entries}
use Rattle.pair_text.proofs.linear_entries.read_linear_entries.Given as goal

abbrev pub invariant-loop-item : goal.invariant-loop-item
invariant-loop-item l =
    joined (Ok (map plain l.entries.items)) (in_turn (with_symbol_of symbol_of) (linear_entry l.system) (views (drop l.item-index l.items)) l.known)
    ≡ linear_entries l.system (views l.items)
