use Rattle.std.proofs.Common.{◌≡◌, ◌++◌, map, drop}
use Rattle.std.specs.List.{AllByRecursion}
use Rattle.sexp_core.specs.Items.{items_of}
use Rattle.sexp_core.specs.Printed.{spaced}
use Rattle.pair_text.specs.Projections.{projection_item}
use Rattle.pair_text.specs.Ranges.{HasPlace}
use Rattle.pair_text.proofs.projections.put_projections.Given as goal

abbrev pub invariant-loop-symbol : goal.invariant-loop-symbol
invariant-loop-symbol l = record {
  text :
      l.out.items ++ spaced (items_of (map (projection_item l.system) (drop l.symbol-index l.entries)))
      ≡ l.initial.out.items ++ spaced (items_of (map (projection_item l.system) l.entries));
  range : AllByRecursion HasPlace (drop l.symbol-index l.entries) → AllByRecursion HasPlace l.entries;
}
