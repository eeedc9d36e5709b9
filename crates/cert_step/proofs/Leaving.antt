-- Steps that leave the same subproblems wherever they apply.
use Rattle.std.specs.Prelude.{◌≡◌, List, Vec, Result, Ok, Err, refl}
use Rattle.std.specs.declared.alloc.Global.{Global}
use Rattle.std.proofs.Common.{sym, subst}
use Rattle.trs_defs.specs.System.{System}
use Rattle.rewrite_core.specs.declared.checks.refusals.CheckFault.{CheckFault}
use Rattle.rewrite_core.specs.Check.{Check, Refuses, AnswersBy, Answers, Then, Returns, returned, goes_on}
use Rattle.rewrite_core.proofs.Answering.{refused_first}
use Rattle.cert_step.specs.declared.problem.Problem.{Problem}
use Rattle.cert_step.specs.ProofProblem.{ProofProblem}
use Rattle.cert_step.specs.Subproblems.{problems_of, AllHold, AreWellMadeProblems, GivesProblems}
use Rattle.cert_step.specs.Kind.{leaves}

module _ {check : Check (Unit {0})} {problems : List ProofProblem} where
  pub passed : {subproblems : List ProofProblem} → leaves problems check (Ok subproblems) → check (Ok tt)
  passed (goes_on _ _ h returned) = h

  pub leaves_same : {subproblems others : List ProofProblem} → leaves problems check (Ok subproblems) → leaves problems check (Ok others) → subproblems ≡ others
  leaves_same (goes_on _ _ h returned) (goes_on _ _ k returned) = refl

  pub left_hold : {subproblems : List ProofProblem} (system : System) → leaves problems check (Ok subproblems) → AllHold system subproblems → AllHold system problems
  left_hold system (goes_on _ _ h returned) each = each

  pub leaves_well_made : {subproblems : List ProofProblem} (system : System) → AreWellMadeProblems system problems → leaves problems check (Ok subproblems) → AreWellMadeProblems system subproblems
  leaves_well_made system well (goes_on _ _ h returned) = well

-- these problems are returned
pub returns_problems : (problems : List ProofProblem) (subproblems : Vec Problem Global) → problems_of subproblems ≡ problems → Returns problems (Ok (problems_of subproblems))
returns_problems problems subproblems e = subst (λ x. Returns problems (Ok x)) (sym e) returned

-- a call that checks conditions, and then one that answers the problems that their value leaves
pub leaving_by : {A X : Type 0} (check : Check A) (seen : X → A) (left : A → List ProofProblem) (checked : Result X CheckFault) (result : Result (Vec Problem Global) CheckFault)
    → AnswersBy seen check checked → GivesProblems (λ x. left (seen x)) checked result
    → AnswersBy problems_of (Then check (λ a. Returns (left a))) result
leaving_by check seen left (Ok x) (Ok subproblems) h k = goes_on (seen x) _ h (returns_problems (left (seen x)) subproblems k)
leaving_by check seen left (Ok x) (Err fault) h k = subst (Refuses (Then check (λ a. Returns (left a)))) (sym k) tt
leaving_by check seen left (Err fault) result h k = subst (AnswersBy problems_of (Then check (λ a. Returns (left a)))) (sym k) (refused_first _ _ fault h)

-- the same, where the problems are always the same
pub leaving : (check : Check (Unit {0})) (problems : List ProofProblem) (checked : Result (Unit {0}) CheckFault) (result : Result (Vec Problem Global) CheckFault)
    → Answers check checked → GivesProblems (λ _. problems) checked result → AnswersBy problems_of (leaves problems check) result
leaving check problems checked result h k = leaving_by check (λ u. u) (λ _. problems) checked result h k
