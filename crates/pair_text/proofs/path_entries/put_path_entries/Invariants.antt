use Rattle.std.proofs.Common.{◌≡◌, ◌++◌, map, drop}
use Rattle.std.specs.List.{AllByRecursion}
use Rattle.sexp_core.specs.Items.{items_of}
use Rattle.sexp_core.specs.Printed.{spaced}
use Rattle.path_lpo.specs.Plain.{plain}
use Rattle.pair_text.specs.PathEntries.{path_entry_item}
use Rattle.pair_text.specs.EntryRanges.{HasPlaces}
use Rattle.pair_text.proofs.path_entries.put_path_entries.Given as goal

abbrev pub invariant-loop-entry : goal.invariant-loop-entry
invariant-loop-entry l = record {
  text :
      l.out.items ++ spaced (items_of (map (path_entry_item l.system) (map plain (drop l.entry-index l.entries))))
      ≡ l.initial.out.items ++ spaced (items_of (map (path_entry_item l.system) (map plain l.entries)));
  range : AllByRecursion HasPlaces (map plain (drop l.entry-index l.entries)) → AllByRecursion HasPlaces (map plain l.entries);
}
