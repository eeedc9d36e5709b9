use Rattle.dp_graph.proofs.finding.components.Goals as goal

pub returns : goal.returns
returns c = rw c.in_ok-graph.ensures at c.components.ensures
