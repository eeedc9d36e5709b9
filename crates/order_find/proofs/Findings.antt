-- What is found for the pairs of a problem is found for the problem.
use Rattle.std.specs.Prelude.{◌≡◌, ℕ, List, Vec, Result, Ok, Err, IfOk}
use Rattle.std.specs.declared.alloc.Global.{Global}
use Rattle.std.proofs.Common.{sym, subst}
use Rattle.trs_defs.specs.System.{System}
use Rattle.pair_theory.specs.DependencyPair.{DependencyPair, dependency_pairs}
use Rattle.assign_search.specs.declared.search.Search.{Search}
use Rattle.assign_search.specs.declared.search.Search.TheVariants.{Found, NotThere, Spent, Stopped}
use Rattle.order_search.specs.dp_core.Numbered.{ArePairsOf}
use Rattle.order_search.specs.dp_core.SubtermConditions.{roots_of}
use Rattle.order_search.specs.Slots.{puzzle_of}
use Rattle.order_search.specs.Outcome.{IsFinding, IsFirst, IsNotThere, IsSpent}
use Rattle.order_search.specs.Ascending.{AreAscending}
use Rattle.order_find.specs.SubtermSpace.{subterm_search}
use Rattle.order_find.specs.SubtermRow.{AreOfProblem, ArePlaces, FindsSubterm, FailsSubterm, places_of}

pub of_problem : (system : System) (numbers : List ℕ) (all taken pairs listed : List DependencyPair) (items roots : List ℕ) → all ≡ dependency_pairs system.rules
    → ArePairsOf all numbers taken → pairs ≡ taken → AreAscending (roots_of listed) items → listed ≡ taken → roots ≡ items → AreOfProblem system numbers pairs roots
of_problem system numbers all taken pairs listed items roots of are same ascending also is = record {
  taken = subst (λ (l : List DependencyPair). ArePairsOf l numbers pairs) of (subst (λ (l : List DependencyPair). ArePairsOf all numbers l) (sym same) are);
  are_roots = subst (λ (l : List DependencyPair). AreAscending (roots_of l) roots) (sym same)
      (subst (λ (l : List DependencyPair). AreAscending (roots_of l) roots) also (subst (λ (l : List ℕ). AreAscending (roots_of listed) l) (sym is) ascending));
}

module _ (system : System) (numbers : List ℕ) (pairs : List DependencyPair) (roots : List ℕ) (budget : ℕ) (rose : Type 0) (of : AreOfProblem system numbers pairs roots) where
  abbrev Finds : {E : Type 0} → List ℕ → Result (Search (Vec (ℕ × ℕ) Global)) E → Type 0
  Finds arities result =
      IfOk result (IsFinding (λ v. ArePlaces budget arities roots pairs v.items) (IsNotThere budget (puzzle_of (subterm_search arities roots pairs)))
      (IsSpent budget (puzzle_of (subterm_search arities roots pairs))) rose)

  found_here : {E : Type 0} (result : Result (Search (Vec (ℕ × ℕ) Global)) E) → Finds system.arities result
      → IfOk result (IsFinding (λ v. FindsSubterm system numbers budget v.items) (FailsSubterm system numbers (IsNotThere budget)) (FailsSubterm system numbers (IsSpent budget)) rose)
  found_here (Err e) h = h
  found_here (Ok (Found v)) h = record { pairs = pairs; roots = roots; of_problem = of; found = h }
  found_here (Ok NotThere) h = record { pairs = pairs; roots = roots; of_problem = of; fails = h }
  found_here (Ok Spent) h = record { pairs = pairs; roots = roots; of_problem = of; fails = h }
  found_here (Ok Stopped) h = h

  pub found_of_problem : {E : Type 0} (arities : List ℕ) (result : Result (Search (Vec (ℕ × ℕ) Global)) E) → arities ≡ system.arities
      → IfOk result (IsFinding (λ v. ArePlaces budget arities roots pairs v.items) (IsNotThere budget (puzzle_of (subterm_search arities roots pairs)))
      (IsSpent budget (puzzle_of (subterm_search arities roots pairs))) rose)
      → IfOk result (IsFinding (λ v. FindsSubterm system numbers budget v.items) (FailsSubterm system numbers (IsNotThere budget)) (FailsSubterm system numbers (IsSpent budget)) rose)
  found_of_problem arities result same h = found_here result (subst (λ (a : List ℕ). Finds a result) same h)

-- the places that the values of the first solution say
pub reads_places : {E : Type 0} (arities roots values : List ℕ) (pairs : List DependencyPair) (result : Result (Vec (ℕ × ℕ) Global) E)
    → IfOk result (λ places. places.items ≡ places_of roots values)
    → IfOk result (λ places. (budget : ℕ) → IsFirst budget values (puzzle_of (subterm_search arities roots pairs)) → ArePlaces budget arities roots pairs places.items)
reads_places arities roots values pairs (Ok places) e = λ budget first. record { values = values; first = first; are = e }
reads_places arities roots values pairs (Err fault) e = tt
