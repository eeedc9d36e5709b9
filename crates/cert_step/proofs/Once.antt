-- A step has at most one answer.
use Rattle.std.specs.Prelude.{◌≡◌, List, Ok, Err, IsTrue}
use Rattle.trs_defs.specs.System.{System, IsSystem}
use Rattle.rewrite_core.specs.declared.checks.refusals.StepRefused.{StepRefused}
use Rattle.rewrite_core.specs.declared.checks.refusals.StepRefused.TheVariants.{WrongProblem}
use Rattle.rewrite_core.specs.Check.{HasOneAnswer, goes_on}
use Rattle.rewrite_core.proofs.CheckLaws.{then_once, needs_once}
use Rattle.cert_step.specs.ProofProblem.{ProofProblem}
use Rattle.cert_step.specs.ProofStep.{ProofStep, kind_of}
use Rattle.cert_step.specs.Applies.{step_conditions, Applies}
use Rattle.cert_step.specs.Refused.{IsStepRefused}
use Rattle.cert_step.proofs.EachKind.{kind_sound}

-- It leaves at most one list of subproblems.
pub applies_once : (system : System) (p : ProofProblem) (s : ProofStep) (subproblems others : List ProofProblem)
    → Applies system p s subproblems → Applies system p s others → subproblems ≡ others
applies_once system p s subproblems others (goes_on _ _ _ h) (goes_on _ _ _ k) = (kind_sound s).leaves_once system p subproblems others h k

module _ (system : System) (valid : IsSystem system) (p : ProofProblem) (s : ProofStep) where
  pub step_once : HasOneAnswer (step_conditions system p s)
  step_once = then_once _ _ (needs_once (IsTrue ((kind_of s).is_for p)) WrongProblem) (λ _. (kind_sound s).one_answer system p valid)

  -- A step that applies is not refused.
  pub not_both : (subproblems : List ProofProblem) (refused : StepRefused) → Applies system p s subproblems → IsStepRefused system p s refused → ⊥
  not_both subproblems refused a h = let e = step_once.once (Ok subproblems) (Err refused) a h in absurd cc

  -- It is refused for at most one reason.
  pub refused_once : (refused other : StepRefused) → IsStepRefused system p s refused → IsStepRefused system p s other → refused ≡ other
  refused_once refused other a b = let e = step_once.once (Err refused) (Err other) a b in cc
