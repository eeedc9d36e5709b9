use Rattle.dp_graph.specs.NotedRules.{HaveAllNoted}
use Rattle.dp_graph.proofs.noted.noted_by_root.Given as goal

abbrev pub invariant-loop-rule : goal.invariant-loop-rule
invariant-loop-rule l = HaveAllNoted l.by_root.rules l.lefts l.noted
