-- What an acceptance means: the theorem of the certifier.
use Rattle.std.specs.Prelude.{ℕ, List}
use Rattle.names_text.specs.Named.{NamedSystem}
use Rattle.ari_text.specs.Problem.{SaysSystem}
use Rattle.cert_text.specs.cert_step.declared.claim.Claim.{Claim}
use Rattle.cert_text.specs.cert_step.ProofProblem.{Says}
use Rattle.certifier.specs.Acceptance.{IsAcceptance}

-- where a certificate text is accepted for a problem text and a claim, the claim is true of the system that the problem
-- text says
abbrev pub AcceptanceIsTrue : Type 0
AcceptanceIsTrue =
    (problem certificate : List ℕ) (claim : Claim) (named : NamedSystem) → IsAcceptance problem certificate claim named
    → SaysSystem problem named × Says named.system claim
