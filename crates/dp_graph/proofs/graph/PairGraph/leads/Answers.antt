use Rattle.std.proofs.Common.{subst, arith}
use Rattle.dp_graph.specs.GraphNodes.{AreNodesOf}
use Rattle.dp_graph.proofs.NodeLists.{item_found, item_missing, row_within, no_edge_from, no_edge_to, edge_decided}
use Rattle.dp_graph.proofs.graph.PairGraph.leads.Goals.{After-get}
use Rattle.dp_graph.proofs.graph.PairGraph.leads.Goals as goal

nodes : (c : After-get) → AreNodesOf c.args.self.now c.self.inside.nodes.items c.self.inside.rows.items
nodes c = subst (λ z. AreNodesOf z c.self.inside.nodes.items c.self.inside.rows.items) c.self.view_is c.self.invariant

pub index-requires : goal.index-requires
index-requires c =
    let at = item_found c.self.inside.nodes.items c.args.m c.get.result c.in-Some.from (rw c.deref.ensures.value at c.get.ensures.lookup) c.in-Some.is in
    let h = row_within c.args.self.now c.self.inside.nodes.items c.self.inside.rows.items (nodes (goal.at.index-requires c).After-get) c.args.m c.in-Some.from.now at in
    omega (arith, h, c.self.inside.rows.ok.0)

pub returns : goal.returns
returns c =
    let are = nodes (goal.at.returns c).After-get in
    let at = item_found c.self.inside.nodes.items c.args.m c.get.result c.in-Some.from (rw c.deref.ensures.value at c.get.ensures.lookup) c.in-Some.is in
    let there = item_found c.self.inside.nodes.items c.args.n c.get-2.result c.in-Some-get.to (rw c.deref-2.ensures.value at c.get-2.ensures.lookup) c.in-Some-get.is in
    edge_decided c.args.self.now c.self.inside.nodes.items c.self.inside.rows.items are c.args.m c.args.n c.in-Some.from.now c.in-Some-get.to.now c.index.result.now c.is_set.result at there c.index.ensures
    (rw c.deref-3.ensures.value at c.is_set.ensures)

pub returns-in_default : goal.returns-in_default
returns-in_default c =
    no_edge_from c.args.self.now c.self.inside.nodes.items c.self.inside.rows.items (nodes (goal.at.returns-in_default c).After-get) c.args.m c.args.n
    (item_missing c.self.inside.nodes.items c.args.m c.get.result (rw c.deref.ensures.value at c.get.ensures.lookup) c.in_default.is)

pub returns-in_default-get : goal.returns-in_default-get
returns-in_default-get c =
    no_edge_to c.args.self.now c.self.inside.nodes.items c.self.inside.rows.items (nodes (goal.at.returns-in_default-get c).After-get) c.args.m c.args.n
    (item_missing c.self.inside.nodes.items c.args.n c.get-2.result (rw c.deref-2.ensures.value at c.get-2.ensures.lookup) c.in_default-get.is)
