use Rattle.std.proofs.lemmas.Result.{IfOk-weaker}
use Rattle.trs_core.specs.View.{tree}
use Rattle.trs_caps.specs.View.{holed}
use Rattle.dp_graph.proofs.EdgeTest.{edge_if_meets}
use Rattle.dp_graph.proofs.edges.leads.Goals as goal

pub returns : goal.returns
returns c = IfOk-weaker c.meets.result _ _
    (λ b h rules p q cap left. edge_if_meets (holed c.args.end.now) (tree c.args.left.now) rules p q cap left b h)
    c.meets.ensures
