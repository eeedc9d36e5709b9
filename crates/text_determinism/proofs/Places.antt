-- The places of arguments that the strategy subterm finds are one, and at most one of its answers is true.
use Rattle.std.specs.Prelude.{◌≡◌, ℕ, List}
use Rattle.std.proofs.Common.{ap₂, subst}
use Rattle.trs_defs.specs.System.{System}
use Rattle.pair_theory.specs.DependencyPair.{DependencyPair, dependency_pairs}
use Rattle.sampling.specs.dp_core.SubtermConditions.{roots_of}
use Rattle.assign_search.specs.Puzzle.{Puzzle}
use Rattle.conclusion.specs.report_text.strategies.order_search.Slots.{puzzle_of}
use Rattle.conclusion.specs.report_text.strategies.order_search.Ascending.{AreAscending}
use Rattle.conclusion.specs.report_text.strategies.order_search.Outcome.{IsNotThere, IsSpent}
use Rattle.conclusion.specs.report_text.strategies.order_find.SubtermSpace.{subterm_search}
use Rattle.conclusion.specs.report_text.strategies.order_find.SubtermRow.{AreOfProblem, places_of, FindsSubterm, FailsSubterm}
use Rattle.text_determinism.specs.LoopLaws.{Exclude}
use Rattle.text_determinism.proofs.Items.{items_once, ascending_once}
use Rattle.text_determinism.proofs.Searches.{Found, Failed, found_once, answers_exclude, exclude_by}

module _ (system : System) (numbers : List ℕ) (budget : ℕ) where
  abbrev Placed : Type 0
  Placed = List DependencyPair × List ℕ

  abbrev ArePlaced : Placed → Type 0
  ArePlaced p = AreOfProblem system numbers p.0 p.1

  one_placed : (p q : Placed) → ArePlaced p → ArePlaced q → p ≡ q
  one_placed (pairs, roots) (others, more) h k =
      let same : pairs ≡ others = items_once (dependency_pairs system.rules) numbers pairs others h.taken k.taken in
      let also : roots ≡ more = ascending_once (roots_of others) roots more
      (subst (λ (ps : List DependencyPair). AreAscending (roots_of ps) roots) same h.are_roots) k.are_roots in
      ap₂ (λ (ps : List DependencyPair) (fs : List ℕ). (ps, fs)) same also

  abbrev place_puzzle : Placed → Puzzle
  place_puzzle p = puzzle_of (subterm_search system.arities p.1 p.0)

  abbrev place_value : Placed → List ℕ → List (ℕ × ℕ)
  place_value p values = places_of p.1 values

  abbrev PlacesFound : List (ℕ × ℕ) → Type 0
  PlacesFound a = Found ArePlaced one_placed place_puzzle place_value budget a

  abbrev PlacesFailed : (Puzzle → Type 0) → Type 0
  PlacesFailed ends = Failed ArePlaced one_placed place_puzzle place_value budget ends

  places_found : (a : List (ℕ × ℕ)) → FindsSubterm system numbers budget a → PlacesFound a
  places_found a h = record {
    problem = (h.pairs, h.roots);
    of_problem = h.of_problem;
    values = h.found.values;
    first = h.found.first;
    is = h.found.are;
  }

  places_failed : (ends : Puzzle → Type 0) → FailsSubterm system numbers ends → PlacesFailed ends
  places_failed ends h = record { problem = (h.pairs, h.roots); of_problem = h.of_problem; fails = h.fails }

  pub subterm_once : (a b : List (ℕ × ℕ)) → FindsSubterm system numbers budget a → FindsSubterm system numbers budget b → a ≡ b
  subterm_once a b h k = found_once ArePlaced one_placed place_puzzle place_value budget a b (places_found a h) (places_found b k)

  pub subterm_exclude : (a : List (ℕ × ℕ))
      → Exclude (FindsSubterm system numbers budget a) (FailsSubterm system numbers (IsNotThere budget))
      (FailsSubterm system numbers (IsSpent budget))
  subterm_exclude a =
      exclude_by (places_found a) (places_failed (IsNotThere budget)) (places_failed (IsSpent budget))
      (answers_exclude ArePlaced one_placed place_puzzle place_value budget a)
