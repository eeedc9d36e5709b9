-- A strategy has one answer.
use Rattle.std.specs.Prelude.{◌≡◌, ℕ}
use Rattle.trs_defs.specs.System.{System}
use Rattle.trs_core.specs.Valid.{IsValid}
use Rattle.term_text.specs.Renumbered.{in_order}
use Rattle.conclusion.specs.report_text.strategies.cert_step.ProofProblem.{ProofProblem}
use Rattle.conclusion.specs.report_text.strategies.cert_step.ProofStep.{ProofStep, loop}
use Rattle.conclusion.specs.report_text.strategies.declared.strategy.Strategy.{Strategy}
use Rattle.conclusion.specs.report_text.strategies.Runs.{Found, found, failed}
use Rattle.conclusion.specs.report_text.strategies.Truth.{IsTrueFound}

-- the variables of a loop's term are numbered in the order of their first occurrences; other steps stay as they are
abbrev pub renumbered : ProofStep → ProofStep
renumbered (loop start path place) = loop (in_order start) path place
renumbered s = s

-- the steps are the same, but for the numbers of the variables of a loop
abbrev pub AreSameSteps : ProofStep → ProofStep → Type 0
AreSameSteps s t = renumbered s ≡ renumbered t

-- both answers are such steps, which leave the same problems; or both fail for one reason
abbrev pub AreSameAnswers : Found → Found → Type 0
AreSameAnswers (found s left) (found t others) = AreSameSteps s t × (left ≡ others)
AreSameAnswers (failed failure) (failed other) = failure ≡ other
AreSameAnswers _ _ = ⊥

abbrev pub AnswersAreOne : Type 0
AnswersAreOne =
    (system : System) (budget : ℕ) (strategy : Strategy) (p : ProofProblem) (a b : Found) → IsValid system
    → IsTrueFound system budget strategy p a → IsTrueFound system budget strategy p b → AreSameAnswers a b
