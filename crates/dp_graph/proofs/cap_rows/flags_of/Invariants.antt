use Rattle.std.proofs.Common.{take}
use Rattle.trs_caps.specs.View.{holed}
use Rattle.dp_graph.proofs.CapRowLaws.{RowSoFar}
use Rattle.dp_graph.proofs.cap_rows.flags_of.Given as goal

abbrev pub invariant-loop-k : goal.invariant-loop-k
invariant-loop-k l = RowSoFar l.fn.by_root.rules l.lefts (holed l.cap) (take l.k-index l.k-items) l.row.items
