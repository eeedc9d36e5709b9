use Rattle.std.proofs.Common.{subst}
use Rattle.std.specs.Option.{option_copied}
use Rattle.dp_graph.specs.GraphNodes.{AreNodesOf}
use Rattle.dp_graph.proofs.NodeLists.{node_read, read_item}
use Rattle.dp_graph.proofs.graph.PairGraph.node.Goals as goal

pub returns : goal.returns
returns c =
    let are : AreNodesOf c.args.self.now c.self.inside.nodes.items c.self.inside.rows.items = subst (λ z. AreNodesOf z c.self.inside.nodes.items c.self.inside.rows.items) c.self.view_is c.self.invariant in
    record {
      node = node_read c.args.self.now c.self.inside.nodes.items c.self.inside.rows.items c.args.n (option_copied c.get.result) are
          (read_item c.self.inside.nodes.items c.args.n c.get.result (rw c.deref.ensures.value at c.get.ensures.lookup));
      valid = are.valid;
      symbols = are.symbols;
    }
