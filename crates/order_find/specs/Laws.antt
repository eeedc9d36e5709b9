-- What the finders find meets the conditions of its kind of step.
use Rattle.std.specs.Prelude.{ℕ, List, Ok}
use Rattle.trs_defs.specs.System.{System}
use Rattle.pair_theory.specs.DependencyPair.{dependency_pairs}
use Rattle.order_search.specs.dp_core.SubtermConditions.{subterm_conditions}
use Rattle.order_find.specs.SubtermRow.{FindsSubterm}

abbrev pub FoundPlacesApply : Type 0
FoundPlacesApply =
    (system : System) (numbers : List ℕ) (budget : ℕ) (projection : List (ℕ × ℕ))
    → FindsSubterm system numbers budget projection
    → (left : List ℕ) × subterm_conditions (dependency_pairs system.rules) projection numbers (Ok left)
