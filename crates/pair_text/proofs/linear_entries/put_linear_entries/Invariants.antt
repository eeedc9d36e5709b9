use Rattle.std.proofs.Common.{◌≡◌, ◌++◌, map, drop}
use Rattle.sexp_core.specs.Items.{items_of}
use Rattle.sexp_core.specs.Printed.{spaced}
use Rattle.poly_lin.specs.Plain.{plain}
use Rattle.pair_text.specs.LinearEntries.{linear_entry_item}
use Rattle.pair_text.proofs.linear_entries.put_linear_entries.Given as goal

abbrev pub invariant-loop-symbol : goal.invariant-loop-symbol
invariant-loop-symbol l =
    l.out.items ++ spaced (items_of (map (linear_entry_item l.system) (map plain (drop l.symbol-index l.entries))))
    ≡ l.initial.out.items ++ spaced (items_of (map (linear_entry_item l.system) (map plain l.entries)))
