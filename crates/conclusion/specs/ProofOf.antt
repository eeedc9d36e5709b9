-- A text that proves a claim.
use Rattle.std.specs.Prelude.{◌≡◌, ℕ, List}
use Rattle.names_text.specs.Named.{NamedSystem}
use Rattle.cert_text.specs.cert_step.declared.claim.Claim.{Claim}
use Rattle.cert_text.specs.cert_step.ProofStep.{ProofNodeStep}
use Rattle.cert_text.specs.ProofText.{ProofText}
use Rattle.cert_text.specs.Headline.{headline_of}
use Rattle.cert_text.specs.CertificateText.{SaysCertificate}
use Rattle.cert_text.specs.cert_step.Nodes.{IsAccepted}

-- the text says a certificate of the claim, whose headline fits, and whose steps are accepted
pub record Proves (named : NamedSystem) (claim : Claim) (text : List ℕ) : Type 0 where
  pub says : ProofText
  pub said : SaysCertificate named text says
  pub claimed : says.claim ≡ claim
  pub headline : says.headline ≡ headline_of claim
  pub accepted : IsAccepted named.system claim says.steps

-- the certificate of these steps
abbrev pub proof_of : Claim → List ProofNodeStep → ProofText
proof_of claim steps = record { version = 1; headline = headline_of claim; claim = claim; steps = steps }
