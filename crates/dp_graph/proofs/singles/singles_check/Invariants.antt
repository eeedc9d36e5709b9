use Rattle.dp_graph.proofs.SingleItems.{SinglesSoFar}
use Rattle.dp_graph.proofs.singles.singles_check.Given as goal

abbrev pub invariant-loop-item : goal.invariant-loop-item
invariant-loop-item l = SinglesSoFar l.graph l.items l.item-index
