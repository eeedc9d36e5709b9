use Rattle.dp_graph.proofs.Covering.{edges_cover}
use Rattle.dp_graph.proofs.laws.edges_cover_chain_steps.Goals as goal

pub returns : goal.returns
returns c = edges_cover
