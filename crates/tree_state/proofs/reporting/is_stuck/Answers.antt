use Rattle.std.proofs.Common.{sym, ◌∙◌}
use Rattle.tree_state.proofs.Failures.{stuck_there, read_there}
use Rattle.tree_state.proofs.reporting.is_stuck.Goals as goal

pub returns-in-Some : goal.returns-in-Some
returns-in-Some c =
    let nodes = c.args.nodes.now in
    let node = c.in-Some.node.now in
    let there = read_there nodes c.args.n node c.in-Some.ensures.lookup.3.0 c.in-Some.ensures.lookup.1 in
    c.is_stuck_node.ensures ∙ sym (stuck_there nodes c.args.n node there)
