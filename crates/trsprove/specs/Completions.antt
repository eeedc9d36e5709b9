-- What is answered for the equations of a problem text and an order text.
use Rattle.std.specs.Prelude.{◌≢◌, ℕ, List}
use Rattle.program_edge.specs.names_text.Named.{NamedSystem}
use Rattle.ari_text.specs.Problem.{SaysSystem, IsProblemRefused}
use Rattle.ari_text.specs.declared.fault.AriFault.{AriFault}
use Rattle.ari_text.specs.declared.fault.AriFault.TheVariants as ari
use Rattle.completion_text.specs.OrderText.{IsOrderRefused}
use Rattle.completion_text.specs.declared.refused.OrderRefused.TheVariants.{At}
use Rattle.completion_text.specs.Answers.{IsCompleted}
use Rattle.program_edge.specs.declared.status.Status.{Status}
use Rattle.program_edge.specs.declared.status.Status.TheVariants as status
use Rattle.program_edge.specs.Lines.{refused_line}
use Rattle.trsprove.specs.Lines.{order_refused_line}

-- the most bytes of an order text
abbrev pub most_order_bytes : ℕ
most_order_bytes = 1048576

-- what is answered for a problem text, whose rules are the equations, and an order text, within a budget: a status, and the
-- text that is written
pub data IsCompletion (problem order : List ℕ) (budget : ℕ) : Status → List ℕ → Type 0 where
  no_equations : (fault : AriFault) → IsProblemRefused problem fault → fault ≢ ari.OutOfMemory
      → IsCompletion problem order budget status.Refused (refused_line fault)
  no_order : (named : NamedSystem) (at : ℕ) → SaysSystem problem named → IsOrderRefused named order (At at)
      → IsCompletion problem order budget status.Refused (order_refused_line at)
  ended : {text : List ℕ} (named : NamedSystem) → SaysSystem problem named → IsCompleted named order budget text
      → IsCompletion problem order budget status.Answered text
