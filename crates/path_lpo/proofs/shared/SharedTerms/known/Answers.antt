use Rattle.path_lpo.specs.Graph.{tree_at}
use Rattle.path_lpo.proofs.Walks.{exceeded}
use Rattle.path_lpo.proofs.shared.SharedTerms.known.Goals as goal

pub returns-then-is_part-2 : goal.returns-then-is_part-2
returns-then-is_part-2 g c =
    let rank = g.P.Precedence.ranks c.args.self.now.order.now in
    let ns = c.args.self.now.pair.now.graph.nodes.items in
    exceeded rank (tree_at ns c.args.s) (tree_at ns c.args.t) (c.is_part-2.ensures c.if-is_part-2.true rank)
