use Rattle.dp_graph.proofs.ComponentLaws.{components_pass}
use Rattle.dp_graph.proofs.laws.components_pass.Goals as goal

pub returns : goal.returns
returns c = components_pass
