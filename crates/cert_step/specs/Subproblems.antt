-- The subproblems that a step leaves, and what an answer is that gives them.
use Rattle.std.specs.Prelude.{◌≡◌, List, [], ◌∷◌, map, Vec, Result, Ok, Err, MatchResult}
use Rattle.std.specs.declared.alloc.Global.{Global}
use Rattle.trs_defs.specs.System.{System}
use Rattle.rewrite_core.specs.declared.checks.refusals.CheckFault.{CheckFault}
use Rattle.rewrite_core.specs.declared.checks.refusals.CheckFault.TheVariants.{OutOfMemory}
use Rattle.cert_step.specs.declared.problem.Problem.{Problem}
use Rattle.cert_step.specs.ProofProblem.{ProofProblem, problem_of, Holds, IsWellMadeProblem}

-- each of the problems holds of the system
abbrev pub AllHold : System → List ProofProblem → Type 0
AllHold system [] = Unit {0}
AllHold system (p ∷ rest) = Holds system p × AllHold system rest

abbrev pub AreWellMadeProblems : System → List ProofProblem → Type 0
AreWellMadeProblems system [] = Unit {0}
AreWellMadeProblems system (p ∷ rest) = IsWellMadeProblem system p × AreWellMadeProblems system rest

abbrev pub problems_of : Vec Problem Global → List ProofProblem
problems_of problems = map problem_of problems.items

-- the answer is these problems, unless memory runs out
abbrev pub GivesSubproblems : Result (Vec Problem Global) CheckFault → List ProofProblem → Type 0
GivesSubproblems result subproblems =
    MatchResult result (λ given. problems_of given ≡ subproblems) (λ fault. fault ≡ OutOfMemory)

-- where a check gave a value, the answer is the problems that it leaves, unless memory runs out; where it did not, its fault
abbrev pub GivesProblems : {X : Type 0} → (X → List ProofProblem) → Result X CheckFault → Result (Vec Problem Global) CheckFault → Type 0
GivesProblems left (Ok x) result = GivesSubproblems result (left x)
GivesProblems left (Err fault) result = result ≡ Err fault
