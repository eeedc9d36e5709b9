use Rattle.std.proofs.Common.{◌≡◌, ◌++◌, map, drop}
use Rattle.sexp_core.specs.Items.{items_of}
use Rattle.sexp_core.specs.Printed.{spaced}
use Rattle.pair_text.specs.KnuthEntries.{kbo_entry_item}
use Rattle.pair_text.proofs.knuth_entries.put_kbo_entries.Given as goal

abbrev pub invariant-loop-entry : goal.invariant-loop-entry
invariant-loop-entry l =
    l.out.items ++ spaced (items_of (map (kbo_entry_item l.system) (drop l.entry-index l.entries)))
    ≡ l.initial.out.items ++ spaced (items_of (map (kbo_entry_item l.system) l.entries))
