-- Kinds of steps.
use Rattle.std.specs.Prelude.{◌≡◌, Bool, List, Ok, IsTrue}
use Rattle.trs_defs.specs.System.{System, IsSystem}
use Rattle.rewrite_core.specs.Check.{Check, HasOneAnswer, Returns, Then}
use Rattle.cert_step.specs.ProofProblem.{ProofProblem, Holds, IsWellMadeProblem}
use Rattle.cert_step.specs.Subproblems.{AllHold, AreWellMadeProblems}

-- a step of some kind
pub record Kind : Type 1 where
  -- the problems that it is for
  pub is_for : ProofProblem → Bool
  -- what is known of its terms, numbers and tables before it is checked
  pub is_well_made : System → Type 0
  -- its conditions in order, for a problem that it is for; the value is the subproblems that it leaves
  pub conditions : System → ProofProblem → Check (List ProofProblem)

-- what each kind has to keep
pub record IsSound (kind : Kind) : Type 0 where
  pub one_answer : (system : System) (p : ProofProblem) → IsSystem system → HasOneAnswer (kind.conditions system p)
  pub leaves_once : (system : System) (p : ProofProblem) (subproblems others : List ProofProblem)
      → kind.conditions system p (Ok subproblems) → kind.conditions system p (Ok others) → subproblems ≡ others
  pub sound : (system : System) (p : ProofProblem) (subproblems : List ProofProblem) → IsSystem system → kind.is_well_made system
      → IsTrue (kind.is_for p) → kind.conditions system p (Ok subproblems) → AllHold system subproblems → Holds system p
  pub well_made : (system : System) (p : ProofProblem) (subproblems : List ProofProblem) → IsWellMadeProblem system p
      → kind.is_well_made system → kind.conditions system p (Ok subproblems) → AreWellMadeProblems system subproblems

-- the conditions of a step that leaves the same subproblems wherever it applies
abbrev pub leaves : List ProofProblem → Check (Unit {0}) → Check (List ProofProblem)
leaves subproblems conditions = Then conditions (λ _. Returns subproblems)
