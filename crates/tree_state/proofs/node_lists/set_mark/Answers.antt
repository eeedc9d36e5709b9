use Rattle.tree_state.proofs.SeenNodes.{set_marked}
use Rattle.tree_state.proofs.node_lists.set_mark.Goals as goal

pub returns-clause-nodes : goal.returns-clause-nodes
returns-clause-nodes c = λ history node there fits.
    set_marked history c.args.nodes.now.items c.args.n c.args.place c.index_mut.result.now node c.args.mark c.index_mut.ensures.value there
