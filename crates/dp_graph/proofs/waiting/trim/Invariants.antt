use Rattle.std.proofs.Common.{length}
use Rattle.dp_graph.proofs.WaitingLaws.{TrimsSoFar}
use Rattle.dp_graph.proofs.waiting.trim.Given as goal

abbrev pub invariant-loop-k : goal.invariant-loop-k
invariant-loop-k l = TrimsSoFar l.out l.fn.list.items l.list.items

abbrev pub decreases-loop-k : goal.decreases-loop-k
decreases-loop-k l = length l.list.items
