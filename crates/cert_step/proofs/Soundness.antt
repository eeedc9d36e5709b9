-- Steps are sound.
use Rattle.std.specs.Prelude.{List}
use Rattle.trs_defs.specs.System.{System, IsSystem}
use Rattle.rewrite_core.specs.Check.{goes_on, holds}
use Rattle.cert_step.specs.ProofProblem.{ProofProblem, Holds, IsWellMadeProblem}
use Rattle.cert_step.specs.ProofStep.{ProofStep, IsWellMade}
use Rattle.cert_step.specs.Applies.{Applies}
use Rattle.cert_step.specs.Subproblems.{AllHold, AreWellMadeProblems}
use Rattle.cert_step.proofs.EachKind.{kind_sound}

pub sound_step : (system : System) (p : ProofProblem) (s : ProofStep) (subproblems : List ProofProblem) → IsSystem system → IsWellMade system s
    → Applies system p s subproblems → AllHold system subproblems → Holds system p
sound_step system p s subproblems valid made (goes_on _ _ (holds is) h) each = (kind_sound s).sound system p subproblems valid made is h each

pub problems_well_made : (system : System) (p : ProofProblem) (s : ProofStep) (subproblems : List ProofProblem) → IsWellMadeProblem system p → IsWellMade system s
    → Applies system p s subproblems → AreWellMadeProblems system subproblems
problems_well_made system p s subproblems well made (goes_on _ _ is h) = (kind_sound s).well_made system p subproblems well made h
