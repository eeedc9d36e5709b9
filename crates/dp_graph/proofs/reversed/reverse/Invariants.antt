use Rattle.dp_graph.specs.GraphConditions.{lists_of}
use Rattle.dp_graph.proofs.ReversedLaws.{BackSoFar}
use Rattle.dp_graph.proofs.reversed.reverse.Given as goal

abbrev pub invariant-loop-i : goal.invariant-loop-i
invariant-loop-i l = BackSoFar (lists_of l.rows) (lists_of l.back.items) l.i
