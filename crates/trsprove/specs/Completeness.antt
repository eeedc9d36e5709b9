-- Good words about good texts are answered.
use Rattle.std.specs.Prelude.{◌≡◌, ◌⊎◌, ℕ, true, List, Option, Some}
use Rattle.io_edge.specs.Edge.{Rose}
use Rattle.io_edge.specs.Shelf.{ShelfMeaning, Told, FaultRose}
use Rattle.io_edge.specs.Sink.{SinkMeaning}
use Rattle.program_edge.specs.names_text.Named.{NamedSystem}
use Rattle.ari_text.specs.Problem.{SaysSystem}
use Rattle.program_edge.specs.conclusion.cert_text.ProofText.{ProofText}
use Rattle.program_edge.specs.conclusion.cert_text.CertificateText.{fits_two}
use Rattle.certifier.specs.Acceptance.{IsAcceptedAs}
use Rattle.completion_text.specs.path_lpo.Table.{PathEntry}
use Rattle.completion_text.specs.OrderText.{SaysOrder}
use Rattle.command_line.specs.Request.{Asked, samples}
use Rattle.command_line.specs.declared.Question.{Question}
use Rattle.command_line.specs.declared.Wanted.{Wanted}
use Rattle.command_line.specs.declared.Wanted.TheVariants as want
use Rattle.program_edge.specs.declared.status.Status.{Status}
use Rattle.program_edge.specs.declared.status.Status.TheVariants as status
use Rattle.trsprove.specs.Output.{AreFetched, IsAsked, AreEquations}

-- no fault came: no count of faults rose
pub record NoFaultRose (before now : ShelfMeaning) (taken later : SinkMeaning) : Type 0 where
  pub reading : (name : List ℕ) → FaultRose before now name → ⊥
  pub writing : Rose taken.faults later.faults → ⊥

-- a certificate is accepted, and fits version 2 where it is wanted in that
pub record IsGoodCertificate (wanted : Wanted) (problem certificate : List ℕ) : Type 0 where
  pub named : NamedSystem
  pub says : ProofText
  pub accepted : IsAcceptedAs problem certificate named says
  pub fits : wanted ≡ want.VersionTwo → fits_two says ≡ true

-- the status is 0 where this holds, and 1 where it does not; or memory ran out
abbrev pub IsJudged : Type 0 → Status → Type 0
IsJudged Good s = ((s ≡ status.Answered) × Good) ⊎ (((s ≡ status.Rejected) × (Good → ⊥)) ⊎ (s ≡ status.OutOfMemory))

-- the status is 0, or memory ran out
abbrev pub IsAnsweredOrShort : Status → Type 0
IsAnsweredOrShort s = (s ≡ status.Answered) ⊎ (s ≡ status.OutOfMemory)

-- Each good request is answered: the shelf tells the texts that it needs, they are within their limits, the problem text says
-- a system, and the order text, where one is needed, an order of its symbols.
pub record IsComplete (request : Option Asked) (shelf : ShelfMeaning) (s : Status) : Type 0 where
  pub certificates : (wanted : Wanted) (problem certificate : List ℕ) (named : NamedSystem)
      → AreFetched request wanted (Told shelf) problem certificate → SaysSystem problem named
      → IsJudged (IsGoodCertificate wanted problem certificate) s
  pub questions : (question : Question) (budget : ℕ) (problem : List ℕ) (named : NamedSystem)
      → IsAsked request question budget (Told shelf) problem → SaysSystem problem named → IsAnsweredOrShort s
  pub equations : (budget : ℕ) (problem order : List ℕ) (named : NamedSystem) (entries : List PathEntry)
      → AreEquations request budget (Told shelf) problem order → SaysSystem problem named → SaysOrder named order entries
      → IsAnsweredOrShort s
  pub sample : (size workers budget : ℕ) → request ≡ Some (samples size workers budget) → IsAnsweredOrShort s
