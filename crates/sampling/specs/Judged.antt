-- What is judged of the termination of a system.
use Rattle.std.specs.Prelude.{◌≡◌, ℕ, List, Some, None}
use Rattle.trs_defs.specs.System.{System}
use Rattle.worker_pool.specs.cert_step.ProofStep.{ProofNodeStep}
use Rattle.worker_pool.specs.cert_step.ProofProblem.{Says}
use Rattle.worker_pool.specs.cert_step.declared.claim.Claim.TheVariants.{Terminating, Nonterminating}
use Rattle.worker_pool.specs.cert_step.Nodes.{IsAccepted}
use Rattle.worker_pool.specs.tree_definitions.declared.question.Question.TheVariants.{Termination}
use Rattle.worker_pool.specs.tree_definitions.Reports.{Part, IsTrueReport}
use Rattle.worker_pool.specs.tree_definitions.States.{State}
use Rattle.worker_pool.specs.Serial.{IsSerialEnd}
use Rattle.sampling.specs.declared.judgement.Judgement.{Judgement}
use Rattle.sampling.specs.declared.judgement.Judgement.TheVariants.{Proved, Refuted, Open}

-- some steps are accepted for termination, and the system terminates; or for nontermination, and it does not; or a report of
-- both goals is true
pub data IsTrueJudgement (system : System) (budget : ℕ) : Judgement → Type 0 where
  proved : (steps : List ProofNodeStep) → IsAccepted system Terminating steps → Says system Terminating → IsTrueJudgement system budget Proved
  refuted : (steps : List ProofNodeStep) → IsAccepted system Nonterminating steps → Says system Nonterminating → IsTrueJudgement system budget Refuted
  left_open : (parts : List Part) → IsTrueReport system Termination budget parts → IsTrueJudgement system budget Open

-- the first goal of the question was won, or the second, or none
abbrev pub IsJudgementOf : State → Judgement → Type 0
IsJudgementOf state Proved = state.winner ≡ Some 0
IsJudgementOf state Refuted = state.winner ≡ Some 1
IsJudgementOf state Open = state.winner ≡ None

-- the judgement is that of the state to which a serial history leads
pub record IsSerialJudgement (system : System) (budget : ℕ) (judgement : Judgement) : Type 0 where
  pub state : State
  pub ends : IsSerialEnd system Termination budget state
  pub judged : IsJudgementOf state judgement
