-- The steps that strategies find are in order.
use Rattle.std.specs.Prelude.{ℕ}
use Rattle.trs_defs.specs.System.{System}
use Rattle.cert_text.specs.cert_step.ProofProblem.{ProofProblem}
use Rattle.cert_text.specs.cert_step.ProofStep.{ProofStep}
use Rattle.report_text.specs.strategies.declared.strategy.Strategy.{Strategy}
use Rattle.report_text.specs.strategies.Conditions.{Finds}
use Rattle.conclusion.specs.InOrder.{StartsInOrder}

-- what a strategy finds starts so
abbrev pub FoundStepsAreInOrder : Type 0
FoundStepsAreInOrder =
    (system : System) (budget : ℕ) (strategy : Strategy) (p : ProofProblem) (s : ProofStep) → Finds system budget strategy p s → StartsInOrder s
