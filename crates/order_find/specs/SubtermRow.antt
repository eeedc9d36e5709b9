-- What the strategy subterm finds, and when it fails.
use Rattle.std.specs.Prelude.{◌≡◌, ℕ, ◌+◌, List, [], ◌∷◌}
use Rattle.trs_defs.specs.System.{System}
use Rattle.pair_theory.specs.DependencyPair.{DependencyPair, dependency_pairs}
use Rattle.order_search.specs.dp_core.Numbered.{ArePairsOf}
use Rattle.order_search.specs.dp_core.SubtermConditions.{roots_of}
use Rattle.assign_search.specs.Puzzle.{Puzzle}
use Rattle.order_search.specs.Slots.{puzzle_of}
use Rattle.order_search.specs.Outcome.{IsFirst}
use Rattle.order_search.specs.Ascending.{AreAscending}
use Rattle.order_find.specs.SubtermSpace.{subterm_search}

-- of a problem, given by the numbers of its pairs, these are the pairs, and the roots of their sides
pub record AreOfProblem (system : System) (numbers : List ℕ) (pairs : List DependencyPair) (roots : List ℕ)
    : Type 0 where
  pub taken : ArePairsOf (dependency_pairs system.rules) numbers pairs
  pub are_roots : AreAscending (roots_of pairs) roots

-- each root with its place, counted from 1
abbrev pub places_of : List ℕ → List ℕ → List (ℕ × ℕ)
places_of [] values = []
places_of (f ∷ roots) [] = []
places_of (f ∷ roots) (v ∷ values) = (f, v + 1) ∷ places_of roots values

-- the places of the roots are those of the first solution, within the budget
pub record ArePlaces (budget : ℕ) (arities roots : List ℕ) (pairs : List DependencyPair) (places : List (ℕ × ℕ))
    : Type 0 where
  pub values : List ℕ
  pub first : IsFirst budget values (puzzle_of (subterm_search arities roots pairs))
  pub are : places ≡ places_of roots values

pub record FindsSubterm (system : System) (numbers : List ℕ) (budget : ℕ) (places : List (ℕ × ℕ)) : Type 0 where
  pub pairs : List DependencyPair
  pub roots : List ℕ
  pub of_problem : AreOfProblem system numbers pairs roots
  pub found : ArePlaces budget system.arities roots pairs places

-- the search ends in this way
pub record FailsSubterm (system : System) (numbers : List ℕ) (ends : Puzzle → Type 0) : Type 0 where
  pub pairs : List DependencyPair
  pub roots : List ℕ
  pub of_problem : AreOfProblem system numbers pairs roots
  pub fails : ends (puzzle_of (subterm_search system.arities roots pairs))
