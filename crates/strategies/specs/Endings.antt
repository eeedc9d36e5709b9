-- How the run of a strategy ends.
use Rattle.std.specs.Prelude.{◌≡◌, ℕ, List, Result, Ok, Err, IsErr}
use Rattle.trs_defs.specs.System.{System}
use Rattle.trs_core.specs.declared.memory.OutOfMemory.{OutOfMemory}
use Rattle.cert_step.specs.ProofProblem.{ProofProblem}
use Rattle.cert_step.specs.ProofStep.{ProofStep, IsWellMade}
use Rattle.cert_step.specs.Applies.{DoesApply}
use Rattle.assign_search.specs.declared.search.Search.{Search}
use Rattle.order_find.specs.order_search.Outcome.{IsFinding}
use Rattle.strategies.specs.declared.failure.Failure.TheVariants.{NotThere, Spent}
use Rattle.strategies.specs.declared.strategy.Strategy.{Strategy}
use Rattle.strategies.specs.declared.outcome.Findings.{Findings}
use Rattle.strategies.specs.declared.ran.Ran.{Ran}
use Rattle.strategies.specs.declared.ran.Ran.TheVariants as ran
use Rattle.strategies.specs.declared.searched.Searched.{Searched}
use Rattle.strategies.specs.declared.searched.Searched.TheVariants as searched
use Rattle.strategies.specs.Conditions.{Finds, Fails}
use Rattle.strategies.specs.Runs.{Run}
use Rattle.strategies.specs.Truth.{found_of, IsTrueFound}

-- the fact holds of the outcome, where there is one
abbrev pub IfEnded : (Run → Type 0) → Ran → Type 0
IfEnded fact (ran.Ended outcome) = fact outcome
IfEnded fact ran.Stopped = Unit {0}

-- the fact holds where the run was stopped
abbrev pub IfStopped : Type 0 → Ran → Type 0
IfStopped fact (ran.Ended outcome) = Unit {0}
IfStopped fact ran.Stopped = fact

-- what the strategy answered of the problem is true; `rose` says that the count of stops rose
abbrev pub IsAnswer : System → ℕ → Strategy → ProofProblem → Type 0 → Searched → Type 0
IsAnswer system budget strategy p rose (searched.Ended findings) = IsTrueFound system budget strategy p (found_of findings)
IsAnswer system budget strategy p rose searched.Stopped = rose

-- the findings are true of each strategy that finds the step for the problem
abbrev pub AreTrueIfFound : System → ProofProblem → ProofStep → Findings → Type 0
AreTrueIfFound system p step findings =
    (budget : ℕ) (strategy : Strategy) → Finds system budget strategy p step → IsTrueFound system budget strategy p (found_of findings)

-- the strategy finds the step for the problem, and the step is well-made and applies
pub record FindsStep (system : System) (budget : ℕ) (strategy : Strategy) (p : ProofProblem) (step : ProofStep) : Type 0 where
  pub finds : Finds system budget strategy p step
  pub made : IsWellMade system step
  pub applies : DoesApply system p step

-- what a search answers for the strategy: `finds` holds of what is found, and where nothing is found the strategy fails for the
-- problem; `rose` says that the count of stops rose
abbrev pub IsSearchFor : {A : Type 0} → System → ℕ → Strategy → ProofProblem → (A → Type 0) → Type 0 → Search A → Type 0
IsSearchFor system budget strategy p finds rose search =
    IsFinding finds (Fails system budget strategy p NotThere) (Fails system budget strategy p Spent) rose search

-- the search ended with these findings, unless memory ran out
abbrev pub EndsAs : Result Findings OutOfMemory → Result Searched OutOfMemory → Type 0
EndsAs (Ok findings) result = result ≡ Ok (searched.Ended findings)
EndsAs (Err fault) result = IsErr result
