use Rattle.std.proofs.Common.{◌≡◌, ◌++◌, map, drop}
use Rattle.std.specs.List.{AllByRecursion}
use Rattle.sexp_core.specs.Items.{items_of}
use Rattle.sexp_core.specs.Printed.{spaced}
use Rattle.peak_text.specs.TwoPaths.{two_item}
use Rattle.peak_text.specs.Ranges.{AreTwoInRange}
use Rattle.peak_text.proofs.two_paths.put_each.Given as goal

abbrev pub invariant-loop-join : goal.invariant-loop-join
invariant-loop-join l = record {
  text :
      l.out.items ++ spaced (items_of (map (two_item l.word l.names) (drop l.join-index l.joins)))
      ≡ l.initial.out.items ++ spaced (items_of (map (two_item l.word l.names) l.joins));
  range : AllByRecursion AreTwoInRange (drop l.join-index l.joins) → AllByRecursion AreTwoInRange l.joins;
}
