use Rattle.std.proofs.lemmas.Result.{IfOk-weaker}
use Rattle.dp_graph.proofs.edges.edge.Goals as goal

pub returns : goal.returns
returns c = IfOk-weaker c.leads.result _ _
    (λ b h p q at_from at_to. h c.args.trs.now.rules p q (c.in_ok-end.ensures p at_from) (c.in_ok-left.ensures q at_to))
    c.leads.ensures
