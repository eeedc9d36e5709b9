use Rattle.dp_graph.proofs.PairNodeLaws.{RulesSoFar}
use Rattle.dp_graph.proofs.nodes.Nodes.of.Given as goal

abbrev pub invariant-loop-k : goal.invariant-loop-k
invariant-loop-k l = RulesSoFar l.by_root.rules l.lefts l.k l.nodes
