use Rattle.std.proofs.Common.{◌≡◌, ◌≤◌, ℕ, ◌++◌, List, length, take}
use Rattle.trs_defs.specs.Size.{size_of}
use Rattle.trs_core.specs.View.{tree, forest}
use Rattle.trs_caps.specs.HoledTree.{HoledTree}
use Rattle.trs_caps.specs.View.{holed_all}
use Rattle.dp_graph.specs.CapRows.{AreCaps}
use Rattle.dp_graph.specs.WordRows.{KeepWords}
use Rattle.dp_graph.proofs.CapRowLaws.{CapsSoFar}
use Rattle.dp_graph.proofs.cap_rows.CapRows.+cap_of.Given as goal

abbrev pub invariant-loop-arg : goal.invariant-loop-arg
invariant-loop-arg l = record {
  caps : (key : List ℕ) × (l.words.items ≡ l.fn.words.items ++ key) × ((all : List HoledTree) → AreCaps l.by_root.rules l.lefts l.fn.self all
      → CapsSoFar l.by_root.rules l.lefts l.self all l.f (forest (take l.arg-index l.arg-items)) (holed_all l.parts.items) key l.initial.ends.items l.ends.items);
  kept : KeepWords l.fn.self.rows.rows.items l.self.rows.rows.items;
  longer : length l.initial.ends.items ≤ length l.ends.items;
}

abbrev pub decreases-cap_of : goal.decreases-cap_of
decreases-cap_of l = size_of (tree l.t.now)
