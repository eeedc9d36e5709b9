-- What is known of a text that answers a question.
use Rattle.std.specs.Prelude.{List, ℕ}
use Rattle.names_text.specs.Named.{NamedSystem, IsNamed}
use Rattle.cert_text.specs.cert_step.declared.claim.Claim.{Claim}
use Rattle.cert_text.specs.cert_step.ProofProblem.{Says}
use Rattle.conclusion.specs.ProofOf.{Proves}

-- where a text proves a claim, it is true of the system
abbrev pub ProvedClaimsAreTrue : Type 0
ProvedClaimsAreTrue =
    (named : NamedSystem) (claim : Claim) (text : List ℕ) → IsNamed named → Proves named claim text → Says named.system claim
