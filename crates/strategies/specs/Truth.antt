-- When what a strategy answered is true.
use Rattle.std.specs.Prelude.{ℕ, List, map}
use Rattle.trs_defs.specs.System.{System}
use Rattle.trs_defs.specs.Member.{In}
use Rattle.cert_step.specs.ProofProblem.{ProofProblem, problem_of, IsWellMadeProblem}
use Rattle.cert_step.specs.ProofStep.{ProofStep, step_of, IsWellMade}
use Rattle.cert_step.specs.Applies.{Applies}
use Rattle.strategies.specs.declared.failure.Failure.TheVariants.{NotThere, Spent}
use Rattle.strategies.specs.declared.strategy.Strategy.{Strategy}
use Rattle.strategies.specs.declared.outcome.Findings.{Findings}
use Rattle.strategies.specs.declared.outcome.Findings.TheVariants as code
use Rattle.strategies.specs.Kinds.{strategies_for}
use Rattle.strategies.specs.Conditions.{Finds, Fails}
use Rattle.strategies.specs.Runs.{Found, found, failed, Run}

abbrev pub found_of : Findings → Found
found_of (code.Found step left) = found (step_of step) (map problem_of left.items)
found_of code.NotThere = failed NotThere
found_of code.Spent = failed Spent

-- the step is the one that the strategy finds, applies to the problem, and leaves these problems
pub record IsFound (system : System) (budget : ℕ) (strategy : Strategy) (p : ProofProblem) (step : ProofStep) (left : List ProofProblem) : Type 0 where
  pub finds : Finds system budget strategy p step
  pub applies : Applies system p step left
  pub step_well_made : IsWellMade system step
  pub left_well_made : (q : ProofProblem) → In q left → IsWellMadeProblem system q

abbrev pub IsTrueFound : System → ℕ → Strategy → ProofProblem → Found → Type 0
IsTrueFound system budget strategy p (found step left) = IsFound system budget strategy p step left
IsTrueFound system budget strategy p (failed failure) = Fails system budget strategy p failure

-- the findings of the strategy are true
abbrev pub AreTrueFindings : System → ℕ → Strategy → ProofProblem → Findings → Type 0
AreTrueFindings system budget strategy p findings = IsTrueFound system budget strategy p (found_of findings)

-- the strategy is one of the problem's, and what it answered is true
pub record IsTrueRun (r : Run) : Type 0 where
  pub kind : In r.strategy (strategies_for r.problem)
  pub holds : IsTrueFound r.system r.budget r.strategy r.problem r.found
