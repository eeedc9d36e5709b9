use Rattle.std.proofs.Common.{◌≡◌, ◌++◌, map, drop}
use Rattle.std.specs.List.{AllByRecursion}
use Rattle.sexp_core.specs.Items.{items_of}
use Rattle.sexp_core.specs.Printed.{spaced}
use Rattle.peak_text.specs.FourPaths.{four_item}
use Rattle.peak_text.specs.Ranges.{AreFourInRange}
use Rattle.peak_text.proofs.four_paths.put_fours.Given as goal

abbrev pub invariant-loop-four : goal.invariant-loop-four
invariant-loop-four l = record {
  text :
      l.out.items ++ spaced (items_of (map (four_item l.names) (drop l.four-index l.fours)))
      ≡ l.initial.out.items ++ spaced (items_of (map (four_item l.names) l.fours));
  range : AllByRecursion AreFourInRange (drop l.four-index l.fours) → AllByRecursion AreFourInRange l.fours;
}
