use Rattle.std.proofs.Common.{◌∙◌}
use Rattle.dp_graph.specs.GraphConditions.{lists_of}
use Rattle.cert_step.specs.GraphKind.{group_problems}
use Rattle.cert_step.proofs.Leaving.{leaving_by}
use Rattle.cert_step.proofs.graph_step.apply_graph.Goals as goal

pub returns-clause-answers : goal.returns-clause-answers
returns-clause-answers c =
    leaving_by _ (λ groups. lists_of groups.items) group_problems c.group_check-groups.result c.split.result (rw (c.get.ensures ∙ c.in_ok-graph.ensures.graph) at c.group_check-groups.ensures.answers) c.split.ensures
