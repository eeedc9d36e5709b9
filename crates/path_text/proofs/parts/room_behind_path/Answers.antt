use Rattle.std.proofs.Common.{sym, ◌∙◌}
use Rattle.path_text.proofs.Weighing.{step_weighed, step_heavy}
use Rattle.path_text.proofs.parts.room_behind_path.Goals as goal

pub returns-in_default : goal.returns-in_default
returns-in_default c =
    step_heavy c.args.path.now c.step-item.result c.loop-step.room c.loop-step.step-index _ c.loop-step-test.true c.step-item.is c.loop-step.invariant
    (sym c.room_behind_step.ensures ∙ c.in_default.is)

pub loop-step-preserved : goal.loop-step-preserved
loop-step-preserved c =
    step_weighed c.args.path.now c.step-item.result c.loop-step.room c.loop-step.step-index _ c.loop-step-test.true c.step-item.is c.loop-step.invariant
    c.in-Some.left (sym c.room_behind_step.ensures ∙ c.in-Some.is)
