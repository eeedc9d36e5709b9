use Rattle.tree_state.proofs.SeenNodes.{set_decided}
use Rattle.tree_state.proofs.node_lists.decide_node.Goals as goal

pub returns-clause-nodes : goal.returns-clause-nodes
returns-clause-nodes c = λ history node there.
    set_decided history c.args.nodes.now.items c.args.n c.index_mut.result.now node c.args.decision c.index_mut.ensures.value there
