-- The search for a loop has one answer.
use Rattle.std.specs.Prelude.{◌≡◌, ℕ, List}
use Rattle.trs_defs.specs.Tree.{Tree}
use Rattle.trs_defs.specs.System.{System}
use Rattle.trs_defs.specs.Path.{PlacedRule}
use Rattle.trs_core.specs.Valid.{IsValid}
use Rattle.term_text.specs.Renumbered.{in_order}
use Rattle.loop_find.specs.LoopRow.{FindsLoop, LoopNotThere, LoopSpent}

-- the terms are one, with their variables numbered in the order of their first occurrences; the paths and the places are one
pub record IsSameLoop (start : Tree) (path : List PlacedRule) (place : List ℕ) (other : Tree) (other_path : List PlacedRule) (other_place : List ℕ)
    : Type 0 where
  pub starts : in_order start ≡ in_order other
  pub paths : path ≡ other_path
  pub places : place ≡ other_place

abbrev pub LoopsAreOne : Type 0
LoopsAreOne =
    (system : System) (budget : ℕ) (start other : Tree) (path other_path : List PlacedRule) (place other_place : List ℕ) → IsValid system
    → FindsLoop system.rules budget start path place → FindsLoop system.rules budget other other_path other_place
    → IsSameLoop start path place other other_path other_place

-- of the three answers of a search at most one is true
pub record Exclude (is_found is_not_there is_spent : Type 0) : Type 0 where
  pub not_there : is_found → is_not_there → ⊥
  pub spent : is_found → is_spent → ⊥
  pub neither : is_not_there → is_spent → ⊥

abbrev pub LoopAnswersExclude : Type 0
LoopAnswersExclude =
    (system : System) (budget : ℕ) (start : Tree) (path : List PlacedRule) (place : List ℕ) → IsValid system
    → Exclude (FindsLoop system.rules budget start path place) (LoopNotThere system.rules budget) (LoopSpent system.rules budget)
