use Rattle.std.proofs.Common.{◌≤◌, length}
use Rattle.dp_graph.specs.RulePlaces.{AreRules}
use Rattle.dp_graph.proofs.rows.rules_of.Given as goal

abbrev pub invariant-loop-j : goal.invariant-loop-j
invariant-loop-j l = record {
  low : l.j ≤ length l.problem;
  are : AreRules l.graph l.problem l.j l.rules;
}
