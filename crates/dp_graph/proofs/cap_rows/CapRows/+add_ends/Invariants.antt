use Rattle.std.proofs.Common.{List, take}
use Rattle.trs_core.specs.View.{forest}
use Rattle.trs_caps.specs.HoledTree.{HoledTree}
use Rattle.dp_graph.specs.CapRows.{AreCaps}
use Rattle.dp_graph.specs.WordRows.{KeepWords}
use Rattle.dp_graph.proofs.CapRowLaws.{EndsSoFar}
use Rattle.dp_graph.proofs.cap_rows.CapRows.+add_ends.Given as goal

abbrev pub invariant-loop-arg : goal.invariant-loop-arg
invariant-loop-arg l = record {
  ends : (all : List HoledTree) → AreCaps l.by_root.rules l.lefts l.fn.self all
      → EndsSoFar l.by_root.rules l.lefts l.self all (forest (take l.arg-index l.arg-items)) l.initial.ends.items l.ends.items;
  kept : KeepWords l.fn.self.rows.rows.items l.self.rows.rows.items;
}
