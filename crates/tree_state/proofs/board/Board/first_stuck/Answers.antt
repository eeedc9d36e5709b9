use Rattle.std.proofs.Common.{[], map, position, ap, ◌∙◌}
use Rattle.tree_state.specs.Seen.{entry_of, node_of}
use Rattle.tree_state.specs.Stuck.{is_stuck_at}
use Rattle.tree_state.proofs.Failures.{position_same, stuck_alike}
use Rattle.tree_state.proofs.board.Board.first_stuck.Goals as goal

pub returns : goal.returns
returns c =
    let nodes = c.self.inside.nodes.items in
    let history = map entry_of c.self.inside.history.items in
    rw (← c.self.view_is) (c.first_stuck.ensures
    ∙ ap (λ xs. position (is_stuck_at (map (node_of []) xs)) c.args.order.now) c.deref.ensures.value
    ∙ position_same (is_stuck_at (map (node_of []) nodes)) (is_stuck_at (map (node_of history) nodes)) (stuck_alike [] history nodes) c.args.order.now)
