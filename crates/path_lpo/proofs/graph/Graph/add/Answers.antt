use Rattle.std.proofs.Common.{subst, sym}
use Rattle.path_lpo.specs.Graph.{Keeps}
use Rattle.path_lpo.proofs.Readings.{keeps_more}
use Rattle.path_lpo.proofs.graph.Graph.add.Goals as goal

pub returns-clause-kept : goal.returns-clause-kept
returns-clause-kept c =
    let ns = c.args.self.now.nodes.items in
    subst (Keeps ns) (sym c.in_ok-push.ensures.items) (keeps_more ns c.args.node)
