use Rattle.std.proofs.Common.{◌-◌, length}
use Rattle.dp_graph.specs.GraphConditions.{lists_of}
use Rattle.dp_graph.proofs.OrderLaws.{IsOrdering}
use Rattle.dp_graph.proofs.ordering.sort_components.Given as goal

abbrev pub invariant-loop-v : goal.invariant-loop-v
invariant-loop-v l = IsOrdering l.pairs (lists_of l.rows) l.leaders l.order.items l.waiting

abbrev pub decreases-loop-v : goal.decreases-loop-v
decreases-loop-v l = length l.leaders - length l.order.items
