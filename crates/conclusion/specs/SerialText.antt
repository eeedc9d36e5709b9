-- The text that one worker finds.
use Rattle.std.specs.Prelude.{◌≡◌, ℕ, List, Some, None, slice_get}
use Rattle.names_text.specs.Named.{NamedSystem}
use Rattle.cert_text.specs.cert_step.declared.claim.Claim.{Claim}
use Rattle.cert_text.specs.cert_step.ProofStep.{ProofNodeStep}
use Rattle.report_text.specs.tree_definitions.declared.question.Question.{Question}
use Rattle.report_text.specs.tree_definitions.Questions.{claims}
use Rattle.report_text.specs.tree_definitions.States.{State}
use Rattle.report_text.specs.tree_definitions.Reports.{Part, IsTrueReport, AreStepsOf, ArePartsOf}
use Rattle.worker_pool.specs.Serial.{IsSerialEnd}
use Rattle.conclusion.specs.Concludes.{proof_lines, maybe_text}

-- The text is read off the state to which a serial history leads: the certificate of the goal that was won, or the true report
-- of all goals.
pub data IsSerialText (named : NamedSystem) (question : Question) (budget : ℕ) : List ℕ → Type 0 where
  won : (state : State) (g : ℕ) (claim : Claim) (steps : List ProofNodeStep) → IsSerialEnd named.system question budget state
      → state.winner ≡ Some g → slice_get (claims question) g ≡ Some claim → AreStepsOf state.nodes g steps
      → IsSerialText named question budget (proof_lines named claim steps)
  lost : (state : State) (parts : List Part) → IsSerialEnd named.system question budget state → state.winner ≡ None
      → IsTrueReport named.system question budget parts → ArePartsOf state.nodes parts → IsSerialText named question budget (maybe_text named question parts)
