use Rattle.std.proofs.Common.{◌≡◌, ◌+◌, ◌≤◌, ◌++◌, List, drop, length}
use Rattle.trs_defs.specs.Size.{size_of}
use Rattle.trs_core.specs.View.{tree, forest}
use Rattle.term_pool.specs.Pooled.{Extends}
use Rattle.term_pool.specs.Redexes.{AreNarrow}
use Rattle.crit_pairs.specs.Table.{Site}
use Rattle.crit_pairs.specs.Growing.{IsGrown, sites_in}
use Rattle.crit_pairs.proofs.GrowthLaws.{sites_under}
use Rattle.crit_pairs.proofs.growing.+grow_below.Given as goal

abbrev pub invariant-loop-i : goal.invariant-loop-i
invariant-loop-i l = record {
  grows : (left after : List Site) → IsGrown l.rules l.from l.fn.pool l.fn.growth (sites_in l.j l.fn.place.items (tree l.part) ++ left) after
      → IsGrown l.rules l.from l.pool l.growth (sites_under l.j l.fn.place.items (l.i + 1) (forest (drop l.i l.arg-items)) ++ left) after;
  narrow : AreNarrow (forest (drop l.i l.arg-items));
  few : length l.arg-items ≤ 255;
  same : l.place.items ≡ l.fn.place.items;
  kept : Extends l.fn.pool l.pool;
  inside : l.growth.done ≤ length l.growth.lists.items;
}

abbrev pub decreases-grow_below : goal.decreases-grow_below
decreases-grow_below l = size_of (tree l.part.now)
