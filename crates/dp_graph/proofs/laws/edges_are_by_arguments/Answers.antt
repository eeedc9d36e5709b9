use Rattle.dp_graph.proofs.Covering.{edges_by_arguments}
use Rattle.dp_graph.proofs.laws.edges_are_by_arguments.Goals as goal

pub returns : goal.returns
returns c = edges_by_arguments
