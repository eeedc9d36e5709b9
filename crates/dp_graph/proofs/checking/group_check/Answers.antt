use Rattle.dp_graph.proofs.checking.group_check.Goals as goal

pub returns : goal.returns
returns c = record { answers = rw c.in_ok-graph.ensures at c.group_check.ensures.answers }
