use Rattle.std.proofs.Common.{length}
use Rattle.tree_state.proofs.board.Board.append.Goals as goal

pub invariant_of-self : goal.invariant_of-self
invariant_of-self c = c.append_nodes.ensures.within (length c.self.inside.history.items) c.self.invariant
