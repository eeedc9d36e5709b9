use Rattle.std.proofs.Common.{◌∙◌, ◌≤◌, map, length, sym, ap, arith}
use Rattle.step_text.specs.cert_step.ProofStep.{node_step_of}
use Rattle.text_reading.specs.Seen.{seen}
use Rattle.path_text.proofs.InTurn.{turn_taken, turn_refused, turns_end}
use Rattle.step_text.specs.Steps.{step, paths_of_step}
use Rattle.cert_text.proofs.StepLists.{mapped_more, read_as, refused_as}
use Rattle.cert_text.proofs.reading.read_steps.Goals as goal

pub loop-item-preserved : goal.loop-item-preserved
loop-item-preserved c =
    let reads = read_as c.in_ok-step.field-0 c.in-Ok.step _ c.in_ok-step.ensures.read c.in-Ok.is in
    let left = rw c.in-Ok.is at c.in_ok-step.ensures.left in
    rw (mapped_more c.loop-item.steps.items c.in-Ok.step c.push.new.self.items c.in_ok-push-in-Ok.ensures.items)
    (turn_taken (step c.args.system.now) paths_of_step c.loop-item.sharing c.args.items.now c.item-item.result c.loop-item.item-index (map node_step_of c.loop-item.steps.items) _ c.loop-item-test.true c.item-item.is c.loop-item.invariant
    (node_step_of c.in-Ok.step) c.read_step.new.sharing reads left)
