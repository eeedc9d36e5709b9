use Rattle.std.proofs.Common.{take}
use Rattle.dp_graph.specs.GraphConditions.{lists_of}
use Rattle.dp_graph.specs.Waiting.{Adds, RowEdges}
use Rattle.dp_graph.proofs.waiting.add_row.Given as goal

abbrev pub invariant-loop-j : goal.invariant-loop-j
invariant-loop-j l = Adds (RowEdges (take l.j-index l.row) l.from l.leaders) (lists_of l.fn.blockers.items) (lists_of l.blockers.items)
