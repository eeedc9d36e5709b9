use Rattle.dp_graph.specs.GraphConditions.{lists_of}
use Rattle.dp_graph.proofs.WaitingLaws.{EdgesSoFar}
use Rattle.dp_graph.proofs.waiting.blockers.Given as goal

abbrev pub invariant-loop-i : goal.invariant-loop-i
invariant-loop-i l = EdgesSoFar (lists_of l.rows) l.leaders (lists_of l.blockers.items) l.i
