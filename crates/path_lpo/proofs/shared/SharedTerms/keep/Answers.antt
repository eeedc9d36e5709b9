use Rattle.path_lpo.proofs.shared.SharedTerms.keep.Goals as goal

pub returns-then-not-are_leaves : goal.returns-then-not-are_leaves
returns-then-not-are_leaves g c =
    (c.requires.memory.0, c.keep.ensures (g.P.Precedence.ranks c.args.self.now.order.now) c.args.self.now.pair.now.graph.nodes.items c.requires.memory.1 c.requires.comparison)
