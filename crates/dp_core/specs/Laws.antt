-- The placed pairs of a system are its dependency pairs. The steps that remove pairs conclude.
use Rattle.std.specs.Prelude.{◌≡◌, ◌<◌, ℕ, List, Some, Ok, All, length, slice_get}
use Rattle.std.specs.List.Sorted.{IsStrictlyIncreasing}
use Rattle.trs_defs.specs.System.{RewriteRule, System, IsSystem}
use Rattle.trs_defs.specs.Claims.{IsTerminating}
use Rattle.trs_defs.specs.Path.{PlacedRule}
use Rattle.pair_theory.specs.DependencyPair.{DependencyPair, dependency_pairs}
use Rattle.pair_theory.specs.PairProblem.{IsFiniteProblem}
use Rattle.rewrite_core.specs.Check.{HasOneAnswer}
use Rattle.dp_core.specs.Numbered.{ArePairsOf, numbers_from}
use Rattle.dp_core.specs.SubtermConditions.{subterm_conditions}
use Rattle.dp_core.specs.PairConditions.{Comparing, pair_conditions}
use Rattle.dp_core.specs.PlacedPairs.{placed_pairs, IsPairAt}

-- as many are placed as there are pairs
abbrev pub AllPairsArePlaced : Type 0
AllPairsArePlaced = (system : System) → IsSystem system → length (placed_pairs system.rules) ≡ length (dependency_pairs system.rules)

-- and each of them at its number
abbrev pub PairsArePlacedInOrder : Type 0
PairsArePlacedInOrder =
    (system : System) (n : ℕ) (s : PlacedRule) (pair : DependencyPair) → IsSystem system
    → slice_get (placed_pairs system.rules) n ≡ Some s → slice_get (dependency_pairs system.rules) n ≡ Some pair
    → IsPairAt system.rules s pair

-- the problem of the pairs of these numbers is finite
abbrev pub IsFiniteOf : System → List ℕ → Type 0
IsFiniteOf system numbers = (pairs : List DependencyPair) → ArePairsOf (dependency_pairs system.rules) numbers pairs → IsFiniteProblem system pairs

-- a system terminates if the problem of all its pairs is finite
abbrev pub AllPairsConclude : Type 0
AllPairsConclude = (system : System) → IsSystem system → IsFiniteOf system (numbers_from 0 (dependency_pairs system.rules)) → IsTerminating system

-- a problem is finite if that of the pairs that remain is
abbrev pub SubtermStepsConclude : Type 0
SubtermStepsConclude =
    (system : System) (projection : List (ℕ × ℕ)) (numbers left : List ℕ) → IsSystem system
    → subterm_conditions (dependency_pairs system.rules) projection numbers (Ok left) → IsFiniteOf system left → IsFiniteOf system numbers

-- the conditions have at most one answer
abbrev pub SubtermStepsAnswerOnce : Type 0
SubtermStepsAnswerOnce = (all : List DependencyPair) (projection : List (ℕ × ℕ)) (numbers : List ℕ) → HasOneAnswer (subterm_conditions all projection numbers)

-- numbers that remain of others: they ascend where those do, and are below what those are below
pub record Remain (numbers left : List ℕ) : Type 0 where
  pub ascending : IsStrictlyIncreasing numbers → IsStrictlyIncreasing left
  pub below : (most : ℕ) → All (λ n. n < most) numbers → All (λ n. n < most) left

abbrev pub SubtermStepsLeaveNumbers : Type 0
SubtermStepsLeaveNumbers =
    (all : List DependencyPair) (projection : List (ℕ × ℕ)) (numbers left : List ℕ)
    → subterm_conditions all projection numbers (Ok left) → Remain numbers left

-- by an order that speaks over the system's arity table: a problem is finite if that of the pairs that remain is
abbrev pub PairStepsConclude : Comparing → (List ℕ → Type 0) → Type 0
PairStepsConclude comparing speaks_over =
    (system : System) (numbers left : List ℕ) → IsSystem system → speaks_over system.arities
    → pair_conditions comparing system.rules (dependency_pairs system.rules) numbers (Ok left) → IsFiniteOf system left → IsFiniteOf system numbers

abbrev pub PairStepsAnswerOnce : Comparing → Type 0
PairStepsAnswerOnce comparing =
    (rules : List RewriteRule) (all : List DependencyPair) (numbers : List ℕ) → HasOneAnswer (pair_conditions comparing rules all numbers)

abbrev pub PairStepsLeaveNumbers : Comparing → Type 0
PairStepsLeaveNumbers comparing =
    (rules : List RewriteRule) (all : List DependencyPair) (numbers left : List ℕ)
    → pair_conditions comparing rules all numbers (Ok left) → Remain numbers left
