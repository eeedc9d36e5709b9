use Rattle.std.proofs.Common.{map}
use Rattle.tree_state.specs.Seen.{entry_of}
use Rattle.tree_state.proofs.Failures.{failures_seen}
use Rattle.tree_state.proofs.board.Board.failures.Goals as goal

pub returns : goal.returns
returns c = rw (← c.self.view_is) (failures_seen c.node_failures.result (map entry_of c.self.inside.history.items) c.self.inside.nodes.items c.args.n c.index.result.now c.index.ensures c.node_failures.ensures)
