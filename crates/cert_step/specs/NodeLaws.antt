-- What accepted steps prove.
use Rattle.std.specs.Prelude.{List, All}
use Rattle.trs_defs.specs.System.{System, IsSystem}
use Rattle.cert_step.specs.declared.claim.Claim.{Claim}
use Rattle.cert_step.specs.ProofProblem.{Says}
use Rattle.cert_step.specs.ProofStep.{ProofNodeStep, IsWellMade}
use Rattle.cert_step.specs.Nodes.{IsAccepted}

-- where steps are accepted for a claim, the claim is true of the system
abbrev pub AcceptedClaimsAreTrue : Type 0
AcceptedClaimsAreTrue =
    (system : System) (claim : Claim) (steps : List ProofNodeStep) → IsSystem system → All (λ s. IsWellMade system s.step) steps
    → IsAccepted system claim steps → Says system claim
