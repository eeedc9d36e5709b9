use Rattle.std.proofs.Common.{ap, sym}
use Rattle.path_lpo.specs.Graph.{tree_of}
use Rattle.path_lpo.proofs.Readings.{read_node, no_node, root_whole, root_earlier}
use Rattle.path_lpo.proofs.graph.Graph.root.Goals as goal

pub returns-in-None-clause-whole : goal.returns-in-None-clause-whole
returns-in-None-clause-whole c =
    sym (ap tree_of (no_node c.args.self.now.nodes.items c.deref.result.now c.args.n c.get.result c.deref.ensures.value c.get.ensures.lookup c.in-None.is))

pub returns-in-Some : goal.returns-in-Some
returns-in-Some c =
    let ns = c.args.self.now.nodes.items in
    let there = read_node ns c.deref.result.now c.args.n c.get.result c.in-Some.node c.deref.ensures.value c.get.ensures.lookup c.in-Some.is in
    rw c.root.ensures (record {
      whole = root_whole ns c.args.n c.in-Some.node.now c.args.self.now.earlier there;
      earlier = root_earlier ns c.args.n c.in-Some.node.now c.args.self.now.earlier there;
    })
