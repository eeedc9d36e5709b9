-- What is answered for a problem text and a certificate text.
use Rattle.std.specs.Prelude.{◌≡◌, ◌≢◌, ℕ, true, false, List}
use Rattle.program_edge.specs.names_text.Named.{NamedSystem}
use Rattle.ari_text.specs.Problem.{IsProblemRefused}
use Rattle.ari_text.specs.declared.fault.AriFault.{AriFault}
use Rattle.ari_text.specs.declared.fault.AriFault.TheVariants as ari
use Rattle.program_edge.specs.conclusion.cert_text.ProofText.{ProofText}
use Rattle.program_edge.specs.conclusion.cert_text.CertificateText.{version_two_text, fits_two}
use Rattle.certifier.specs.declared.rejected.Rejected.{Rejected}
use Rattle.certifier.specs.declared.rejected.Rejected.TheVariants as why
use Rattle.certifier.specs.Acceptance.{IsAcceptedAs, IsRejection}
use Rattle.command_line.specs.declared.Wanted.{Wanted}
use Rattle.command_line.specs.declared.Wanted.TheVariants as want
use Rattle.program_edge.specs.declared.status.Status.{Status}
use Rattle.program_edge.specs.declared.status.Status.TheVariants as status
use Rattle.program_edge.specs.Lines.{refused_line}
use Rattle.trsprove.specs.Lines.{accepted_line, rejected_line, too_heavy_line}

-- the most bytes of a certificate text
abbrev pub most_certificate_bytes : ℕ
most_certificate_bytes = 8388608

-- what is written of a certificate that is accepted, by what is wanted of it, with the status
pub data IsWritten (named : NamedSystem) (says : ProofText) : Wanted → Status → List ℕ → Type 0 where
  with_claim : IsWritten named says want.Claim status.Answered (accepted_line says.claim)
  in_version_two : fits_two says ≡ true
      → IsWritten named says want.VersionTwo status.Answered (version_two_text named says)
  too_heavy : fits_two says ≡ false → IsWritten named says want.VersionTwo status.Rejected too_heavy_line

-- what is answered for a problem text and a certificate text, by what is wanted of a certificate that is accepted: a status,
-- and the text that is written
pub data Verdict (problem certificate : List ℕ) (wanted : Wanted) : Status → List ℕ → Type 0 where
  refused : (fault : AriFault) → IsProblemRefused problem fault → fault ≢ ari.OutOfMemory
      → Verdict problem certificate wanted status.Refused (refused_line fault)
  rejected : (reason : Rejected) → IsRejection problem certificate reason
      → ((fault : AriFault) → reason ≢ why.Problem fault) → reason ≢ why.OutOfMemory
      → Verdict problem certificate wanted status.Rejected (rejected_line reason)
  accepted : {s : Status} {text : List ℕ} (named : NamedSystem) (says : ProofText)
      → IsAcceptedAs problem certificate named says → IsWritten named says wanted s text
      → Verdict problem certificate wanted s text
