use Rattle.std.proofs.Common.{map, get_or}
use Rattle.std.specs.Option.{option_map}
use Rattle.std.proofs.lemmas.Option.{slice_get-get_or}
use Rattle.tree_definitions.specs.cert_step.ProofStep.{step_of, node_step_of}
use Rattle.tree_state.proofs.Steps.{steps_next}
use Rattle.tree_state.proofs.board.Board.steps.Goals as goal

pub loop-i-preserved : goal.loop-i-preserved
loop-i-preserved c =
    let order = c.args.order.now in
    let n = get_or order c.loop-i.i 0 in
    let there = slice_get-get_or order c.loop-i.i 0 c.loop-i-test.true in
    steps_next c.args.self.now.state.nodes order c.loop-i.i n (map node_step_of c.loop-i.steps.items) (map node_step_of c.push_step.new.steps.items) (option_map step_of c.in_ok-step.step)
    there c.loop-i-test.true c.loop-i.invariant c.in_ok-step.ensures c.in_ok-push_step.ensures
