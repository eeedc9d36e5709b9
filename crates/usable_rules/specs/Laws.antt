-- The steps by usable rules conclude.
use Rattle.std.specs.Prelude.{ℕ, List, Ok}
use Rattle.trs_defs.specs.System.{RewriteRule, System, IsSystem}
use Rattle.pair_theory.specs.DependencyPair.{DependencyPair, dependency_pairs}
use Rattle.rewrite_core.specs.Check.{HasOneAnswer}
use Rattle.dp_core.specs.Laws.{IsFiniteOf, Remain}
use Rattle.dp_core.specs.PairConditions.{Comparing}
use Rattle.usable_rules.specs.UsableConditions.{usable_conditions}

-- a problem is finite if that of the pairs that remain is
abbrev pub UsableStepsConclude : Comparing → Type 0
UsableStepsConclude comparing =
    (system : System) (numbers left : List ℕ) → IsSystem system
    → usable_conditions comparing system.rules (dependency_pairs system.rules) numbers (Ok left) → IsFiniteOf system left → IsFiniteOf system numbers

-- the conditions have at most one answer
abbrev pub UsableStepsAnswerOnce : Comparing → Type 0
UsableStepsAnswerOnce comparing =
    (rules : List RewriteRule) (all : List DependencyPair) (numbers : List ℕ) → HasOneAnswer (usable_conditions comparing rules all numbers)

abbrev pub UsableStepsLeaveNumbers : Comparing → Type 0
UsableStepsLeaveNumbers comparing =
    (rules : List RewriteRule) (all : List DependencyPair) (numbers left : List ℕ)
    → usable_conditions comparing rules all numbers (Ok left) → Remain numbers left
