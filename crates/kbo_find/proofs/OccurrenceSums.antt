-- The weight of a term and the occurrences in it, by the lists of its symbols and variables.
use Rattle.std.specs.Prelude.{◌≡◌, ◌+◌, ◌==◌, ◌↔◌, ℕ, cond, Bool, IsTrue, List, [], ◌∷◌, length, sum_by}
use Rattle.std.proofs.Common.{sym, arith, ◌∙◌, length-append}
use Rattle.std.proofs.lemmas.List.Sums.{sum_by-cons, sum_by-append}
use Rattle.std.proofs.lemmas.List.Sorted.{sum_by-IsPermutation, length_permutation}
use Rattle.trs_defs.specs.Tree.{Tree, Trees, var, app, nil, cons}
use Rattle.trs_defs.specs.Variable.{occurrences, occurrences_in_all}
use Rattle.order_theory.specs.KnuthBendix.{weigh, weigh_all, KeepsOccurrences}
use Rattle.trs_core.specs.Occurrences.{occurring_in, occurring_in_all}
use Rattle.order_search.specs.dp_core.Symbols.{symbols_of, symbols_of_all}
use Rattle.kbo_find.specs.Occurring.{AreOccurrences, ListsVariables, times_in, StandAsOften}
use Rattle.kbo_find.specs.Counted.{total, AreCountsOf}
use Rattle.kbo_find.specs.declared.counts.Counts.{Counts}
use Rattle.kbo_find.specs.declared.occurrences.Occurrences.{Occurrences}

-- the weight of a term is the sum of the weights of its symbols, each as often as it occurs, and of its variables
module _ (weight : ℕ → ℕ) where
  mutual
    weigh_is : (t : Tree) → weigh weight t ≡ length (occurring_in t) + sum_by weight (symbols_of t)
    weigh_is (var x) = omega arith
    weigh_is (app f ts) = let rest = weigh_all_is ts in let more = sum_by-cons weight f (symbols_of_all ts) in omega (arith, rest, more)

    weigh_all_is : (ts : Trees) → weigh_all weight ts ≡ length (occurring_in_all ts) + sum_by weight (symbols_of_all ts)
    weigh_all_is nil = omega arith
    weigh_all_is (cons t ts) =
        let first = weigh_is t in
        let rest = weigh_all_is ts in
        let long = length-append (occurring_in t) (occurring_in_all ts) in
        let both = sum_by-append weight (symbols_of t) (symbols_of_all ts) in
        omega (arith, first, rest, long, both)

module _ (v : ℕ) where
  abbrev is_it : ℕ → ℕ
  is_it n = cond (n == v) 1 0

  mutual
    occurrences_are : (t : Tree) → occurrences v t ≡ times_in v (occurring_in t)
    occurrences_are (var x) = let one = sum_by-cons is_it x [] in omega (arith, one)
    occurrences_are (app f ts) = all_occurrences_are ts

    all_occurrences_are : (ts : Trees) → occurrences_in_all v ts ≡ times_in v (occurring_in_all ts)
    all_occurrences_are nil = omega arith
    all_occurrences_are (cons t ts) =
        let first = occurrences_are t in
        let rest = all_occurrences_are ts in
        let both = sum_by-append is_it (occurring_in t) (occurring_in_all ts) in
        omega (arith, first, rest, both)

-- a sum of ones
pub length_of : (xs : List ℕ) → sum_by (λ _. 1) xs ≡ length xs
length_of [] = omega arith
length_of (x ∷ xs) = let rest = length_of xs in let more = sum_by-cons (λ _. 1) x xs in omega (arith, rest, more)

module _ (t : Tree) (all : Occurrences) (are : AreOccurrences t all) where
  pub counted : (counts : Counts) → ((weight : ℕ → ℕ) → total weight counts ≡ length all.variables.items + sum_by weight all.symbols.items) → AreCountsOf t counts
  counted counts h weight =
      let variables = length_permutation (occurring_in t) all.variables.items are.variables in
      let symbols = sum_by-IsPermutation weight (symbols_of t) all.symbols.items are.symbols in
      omega (arith, weigh_is weight t, h weight, variables, symbols)

  pub occurring : ListsVariables t all.variables.items
  occurring v = sum_by-IsPermutation (is_it v) (occurring_in t) all.variables.items are.variables ∙ sym (occurrences_are v t)

-- a variable occurs in one term as often as in the other where it stands in its list as often
pub kept_by : (s t : Tree) (left right : List ℕ) → ListsVariables s left → ListsVariables t right → (keeps : Bool) → (IsTrue keeps ↔ StandAsOften left right)
    → IsTrue keeps ↔ KeepsOccurrences s t
kept_by s t left right of_left of_right keeps h = (
  λ e v. omega (arith, h.0 e v, of_left v, of_right v),
  λ k. h.1 (λ v. omega (arith, k v, of_left v, of_right v)),
)
