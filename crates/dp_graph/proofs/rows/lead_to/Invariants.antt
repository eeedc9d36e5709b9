use Rattle.dp_graph.specs.GraphConditions.{lists_of}
use Rattle.dp_graph.specs.RulePlaces.{LeadsByRules}
use Rattle.dp_graph.proofs.RowLaws.{AmongFirst}
use Rattle.dp_graph.proofs.rows.lead_to.Given as goal

abbrev pub invariant-loop-rule : goal.invariant-loop-rule
invariant-loop-rule l = LeadsByRules l.graph (AmongFirst l.rules l.rule-index) l.m l.i (lists_of l.fn.rows.items) (lists_of l.rows.items)
