use Rattle.std.proofs.Common.{ap}
use Rattle.path_lpo.specs.Graph.{trees_of}
use Rattle.path_lpo.proofs.Readings.{read_node, no_node, node_split}
use Rattle.path_lpo.proofs.graph.Graph.split_first.Goals as goal

pub returns-in-None : goal.returns-in-None
returns-in-None c = ap trees_of (no_node c.args.self.now.nodes.items c.deref.result.now c.args.list c.get.result c.deref.ensures.value c.get.ensures.lookup c.in-None.is)

pub returns-in-Some : goal.returns-in-Some
returns-in-Some c =
    let ns = c.args.self.now.nodes.items in
    let there = read_node ns c.deref.result.now c.args.list c.get.result c.in-Some.node c.deref.ensures.value c.get.ensures.lookup c.in-Some.is in
    rw c.split.ensures (node_split ns c.args.list c.in-Some.node.now c.args.self.now.earlier there)
