use Rattle.std.proofs.Common.{◌≤◌, length}
use Rattle.dp_graph.proofs.LeftLaws.{SameSoFar}
use Rattle.dp_graph.proofs.lefts.first_with_left.Given as goal

abbrev pub invariant-loop-k : goal.invariant-loop-k
invariant-loop-k l = record {
  low : l.k ≤ length l.rules;
  same : SameSoFar l.rules l.pool l.seen.items l.firsts.items l.k;
}
