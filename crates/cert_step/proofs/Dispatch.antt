-- What a call answers of a step, from what its kind answers.
use Rattle.std.specs.Prelude.{◌≡◌, Bool, true, false, Vec, Result, Ok, Err, IfOk}
use Rattle.std.proofs.Common.{sym, ◌∙◌}
use Rattle.std.specs.declared.alloc.Global.{Global}
use Rattle.trs_defs.specs.System.{System, IsSystem}
use Rattle.rewrite_core.specs.declared.checks.refusals.CheckFault.{CheckFault}
use Rattle.rewrite_core.specs.declared.checks.refusals.StepRefused.TheVariants.{WrongProblem}
use Rattle.rewrite_core.specs.Check.{AnswersBy, stops, lacks, holds}
use Rattle.rewrite_core.proofs.Answering.{then_answers}
use Rattle.cert_step.specs.declared.problem.Problem.{Problem}
use Rattle.cert_step.specs.ProofProblem.{ProofProblem, Holds, IsWellMadeProblem}
use Rattle.cert_step.specs.ProofStep.{ProofStep, kind_of, IsWellMade}
use Rattle.cert_step.specs.Applies.{step_conditions}
use Rattle.cert_step.specs.Subproblems.{problems_of, AllHold, AreWellMadeProblems}
use Rattle.cert_step.proofs.Soundness.{sound_step, problems_well_made}

module _ (system : System) (p : ProofProblem) (s : ProofStep) where
  pub wrong_problem : (b : Bool) → b ≡ (kind_of s).is_for p → b ≡ false → step_conditions system p s (Err WrongProblem)
  wrong_problem b is e = stops _ (lacks (λ h. let wrong : false ≡ true = sym e ∙ is ∙ h in cc))

  pub right_problem : (b : Bool) (r : Result (Vec Problem Global) CheckFault) → b ≡ (kind_of s).is_for p → b ≡ true
      → AnswersBy problems_of ((kind_of s).conditions system p) r → AnswersBy problems_of (step_conditions system p s) r
  right_problem b r is e h = then_answers _ _ problems_of tt r (holds (sym is ∙ e)) h

  pub sound_answer : (r : Result (Vec Problem Global) CheckFault) → IsSystem system → IsWellMade system s → AnswersBy problems_of (step_conditions system p s) r
      → IfOk r (λ subproblems. AllHold system (problems_of subproblems) → Holds system p)
  sound_answer (Ok subproblems) valid made h = sound_step system p s (problems_of subproblems) valid made h
  sound_answer (Err fault) valid made h = tt

  pub well_made_answer : (r : Result (Vec Problem Global) CheckFault) → IsWellMadeProblem system p → IsWellMade system s
      → AnswersBy problems_of (step_conditions system p s) r → IfOk r (λ subproblems. AreWellMadeProblems system (problems_of subproblems))
  well_made_answer (Ok subproblems) well made h = problems_well_made system p s (problems_of subproblems) well made h
  well_made_answer (Err fault) well made h = tt
