use Rattle.std.proofs.Common.{◌≡◌, ◌≤◌, ℕ, List, length}
use Rattle.dp_graph.specs.GraphConditions.{lists_of}
use Rattle.dp_graph.specs.Reversed.{AreReversed}
use Rattle.dp_graph.specs.Finishing.{IsFinishingOrder}
use Rattle.dp_graph.proofs.LeaderLaws.{LedSoFar}
use Rattle.dp_graph.proofs.leaders.leaders.Given as goal

abbrev pub invariant-loop-k : goal.invariant-loop-k
invariant-loop-k l = record {
  leaders : length l.leaders.items ≡ length l.back;
  flags : length l.flags.items ≡ length l.back;
  low : l.k ≤ length l.order;
  led : (rows : List (List ℕ)) → AreReversed rows (lists_of l.back) → IsFinishingOrder rows l.order → LedSoFar rows l.order l.leaders.items l.flags.items l.k;
}

abbrev pub decreases-loop-k : goal.decreases-loop-k
decreases-loop-k l = l.k
