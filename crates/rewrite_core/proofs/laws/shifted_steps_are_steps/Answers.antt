use Rattle.rewrite_core.proofs.ShiftedSteps.{shifted_steps}
use Rattle.rewrite_core.proofs.laws.shifted_steps_are_steps.Goals as goal

pub returns : goal.returns
returns c = λ rules by s whole part u v e f step. shifted_steps rules by s whole part u v e f step
