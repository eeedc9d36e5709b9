use Rattle.std.proofs.Common.{◌≡◌, ◌+◌, ◌≤◌, ◌++◌, drop, length}
use Rattle.trs_defs.specs.Size.{size_of}
use Rattle.trs_core.specs.View.{tree, forest}
use Rattle.term_pool.specs.Redexes.{AreNarrow}
use Rattle.dp_core.specs.PlacedPairs.{defined_places, placed_below}
use Rattle.dp_core.proofs.PairWalk.{Whole, below_arguments}
use Rattle.dp_core.proofs.listing.+add_below.Given as goal

abbrev pub invariant-loop-i : goal.invariant-loop-i
invariant-loop-i l = record {
  pairs : Whole (l.fn.pairs.items ++ placed_below l.k l.fn.place.items (defined_places l.by_root.rules (tree l.part))) l.pairs.items
      (below_arguments l.by_root.rules l.k l.fn.place.items (l.i + 1) (forest (drop l.i l.arg-items)));
  narrow : AreNarrow (forest (drop l.i l.arg-items));
  few : length l.arg-items ≤ 255;
  same : l.place.items ≡ l.fn.place.items;
}

abbrev pub decreases-add_below : goal.decreases-add_below
decreases-add_below l = size_of (tree l.part.now)
