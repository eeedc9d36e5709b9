-- Opposite claims.
use Rattle.trs_defs.specs.System.{System}
use Rattle.cert_step.specs.declared.claim.Claim.{Claim}
use Rattle.cert_step.specs.declared.claim.Claim.TheVariants.{Terminating, Nonterminating, Confluent, Nonconfluent, Unique, Nonunique}
use Rattle.cert_step.specs.ProofProblem.{Says}

abbrev pub opposite : Claim → Claim
opposite Terminating = Nonterminating
opposite Nonterminating = Terminating
opposite Confluent = Nonconfluent
opposite Nonconfluent = Confluent
opposite Unique = Nonunique
opposite Nonunique = Unique

-- a claim and its opposite are not both true of a system
abbrev pub OppositeClaimsExclude : Type 0
OppositeClaimsExclude = (system : System) (claim : Claim) → Says system claim → Says system (opposite claim) → ⊥
