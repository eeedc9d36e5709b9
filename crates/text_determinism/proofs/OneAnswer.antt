-- A strategy has one answer, if its loops are one and the answers of its search for loops exclude each other.
use Rattle.std.specs.Prelude.{ℕ}
use Rattle.trs_defs.specs.System.{System}
use Rattle.trs_core.specs.Valid.{IsValid}
use Rattle.conclusion.specs.report_text.strategies.cert_step.ProofProblem.{ProofProblem}
use Rattle.conclusion.specs.report_text.strategies.declared.strategy.Strategy.{Strategy}
use Rattle.conclusion.specs.report_text.strategies.Runs.{Found, found, failed}
use Rattle.conclusion.specs.report_text.strategies.Truth.{IsTrueFound}
use Rattle.text_determinism.specs.LoopLaws.{LoopsAreOne, LoopAnswersExclude}
use Rattle.text_determinism.specs.AnswerLaws.{AreSameAnswers, AnswersAreOne}
use Rattle.text_determinism.proofs.SameSteps.{same_left, one_step}
use Rattle.text_determinism.proofs.Failures.{found_or_failed, one_reason}

module _ (loops : LoopsAreOne) (exclude : LoopAnswersExclude) where
  one_answer : (system : System) (budget : ℕ) (strategy : Strategy) (p : ProofProblem) (a b : Found) → IsValid system
      → IsTrueFound system budget strategy p a → IsTrueFound system budget strategy p b → AreSameAnswers a b
  one_answer system budget strategy p (found s left) (found t others) valid h k =
      same_left system p s t left others (one_step system valid budget loops h.finds k.finds) h.applies k.applies
  one_answer system budget strategy p (found s left) (failed failure) valid h k = found_or_failed system valid budget exclude h.finds k
  one_answer system budget strategy p (failed failure) (found t others) valid h k = found_or_failed system valid budget exclude k.finds h
  one_answer system budget strategy p (failed failure) (failed other) valid h k = one_reason system valid budget exclude failure other h k

  pub answers_one : AnswersAreOne
  answers_one = one_answer
