use Rattle.std.proofs.Common.{◌≡◌, ◌≤◌, ◌++◌, map, drop}
use Rattle.std.specs.List.{AllByRecursion}
use Rattle.sexp_core.specs.Items.{items_of}
use Rattle.sexp_core.specs.Printed.{spaced}
use Rattle.text_reading.specs.Printed.{number_item}
use Rattle.pair_text.proofs.path_entries.put_places.Given as goal

abbrev pub invariant-loop-argument : goal.invariant-loop-argument
invariant-loop-argument l = record {
  text :
      l.out.items ++ spaced (items_of (map number_item (drop l.argument-index l.rest))) ≡ l.initial.out.items ++ spaced (items_of (map number_item l.rest));
  range : AllByRecursion (λ place. place ≤ 255) (drop l.argument-index l.rest) → AllByRecursion (λ place. place ≤ 255) l.rest;
}
