-- Why a step does not apply to a problem: the first of its conditions that fails.
use Rattle.std.specs.Prelude.{Err}
use Rattle.trs_defs.specs.System.{System}
use Rattle.rewrite_core.specs.declared.checks.refusals.StepRefused.{StepRefused}
use Rattle.cert_step.specs.ProofProblem.{ProofProblem}
use Rattle.cert_step.specs.ProofStep.{ProofStep}
use Rattle.cert_step.specs.Applies.{step_conditions}

-- the step is refused for the problem, for this reason
abbrev pub IsStepRefused : System → ProofProblem → ProofStep → StepRefused → Type 0
IsStepRefused system p s refused = step_conditions system p s (Err refused)
