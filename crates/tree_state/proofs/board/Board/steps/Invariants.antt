use Rattle.std.proofs.Common.{◌≡◌, map, take}
use Rattle.tree_definitions.specs.cert_step.ProofStep.{node_step_of}
use Rattle.tree_definitions.specs.Reports.{steps_from}
use Rattle.tree_state.proofs.board.Board.steps.Given as goal

abbrev pub invariant-loop-i : goal.invariant-loop-i
invariant-loop-i l = map node_step_of l.steps.items ≡ steps_from l.self.state.nodes 0 (take l.i l.order)
