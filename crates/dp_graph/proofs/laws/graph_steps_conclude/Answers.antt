use Rattle.dp_graph.proofs.Concluding.{graph_concludes, graph_once, groups_of_problem}
use Rattle.dp_graph.proofs.laws.graph_steps_conclude.Goals as goal

pub returns : goal.returns
returns c = record { conclude = graph_concludes; once = graph_once; groups = groups_of_problem }
