use Rattle.std.proofs.Common.{◌≤◌, ◌-◌}
use Rattle.dp_graph.specs.GraphConditions.{lists_of}
use Rattle.dp_graph.specs.PlaceLists.{AreEmpty}
use Rattle.dp_graph.proofs.lists.empty_lists.Given as goal

abbrev pub invariant-loop-k : goal.invariant-loop-k
invariant-loop-k l = record {
  low : l.k ≤ l.n;
  empty : AreEmpty l.k (lists_of l.lists.items);
}

abbrev pub decreases-loop-k : goal.decreases-loop-k
decreases-loop-k l = l.n - l.k
