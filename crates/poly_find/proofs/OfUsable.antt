-- What is found over the usable rules and the pairs of a problem is found for the problem.
use Rattle.std.specs.Prelude.{◌≡◌, ◌<◌, ◌≤◌, ℕ, ◌+◌, ◌-◌, ◌^◌, List, [], ◌∷◌, ◌++◌, length, map, All, Some, slice_get, Result, Ok, Err, IfOk}
use Rattle.std.specs.List.Sorted.{IsStrictlyIncreasing}
use Rattle.std.proofs.Common.{suc, inl, inr, refl, sym, ap, subst, arith, ◌∙◌}
use Rattle.std.proofs.lemmas.List.{length-map}
use Rattle.trs_defs.specs.Member.{In, in_first, in_rest}
use Rattle.trs_defs.proofs.Members.{in_or, no_in, in_either, in_of_get, get_of_in}
use Rattle.trs_defs.specs.System.{RewriteRule, System, IsSystem}
use Rattle.pair_theory.specs.DependencyPair.{DependencyPair, dependency_pairs}
use Rattle.pair_theory.specs.PairProblem.{IsPair}
use Rattle.pair_theory.specs.ReductionPair.{marked_rule}
use Rattle.assign_search.specs.declared.search.Search.{Search}
use Rattle.assign_search.specs.declared.search.Search.TheVariants.{Found, NotThere, Spent, Stopped}
use Rattle.order_search.specs.dp_core.Numbered.{ArePairsOf, AreItemsOf}
use Rattle.order_search.specs.dp_core.Symbols.{symbols_of, symbols_of_all, symbols_of_rules, symbols_below_roots}
use Rattle.order_search.proofs.dp_core.NumberedPairs.{as_many, within_all}
use Rattle.order_search.proofs.dp_core.OrderConclusions.{rule_symbols}
use Rattle.order_search.proofs.dp_core.Conclusions.{each_in}
use Rattle.usable_rules.specs.AreUsable.{AreUsableRules, Ascends, no_numbers, number}
use Rattle.usable_rules.proofs.Chosen.{usable_within}
use Rattle.order_search.specs.Slots.{puzzle_of}
use Rattle.order_search.specs.Outcome.{IsFinding, IsNotThere, IsSpent}
use Rattle.order_search.proofs.FewPairs.{few_taken}
use Rattle.order_search.specs.OrderRow.{AreSymbols}
use Rattle.order_search.specs.OrderOver.{IsOrderOver}
use Rattle.order_search.specs.Distinct.{AreDistinct}
use Rattle.order_search.proofs.Covered.{symbols_below, symbols_within, rule_well}
use Rattle.order_search.proofs.OfProblem.{small_root}
use Rattle.order_search.proofs.Repeats.{symbols_distinct}
use Rattle.poly_find.specs.PolyRow.{poly_search, poly_entry}
use Rattle.order_search.proofs.LowSymbols.{low_symbols, few_by_numbers}
use Rattle.poly_find.specs.UsableRow.{AreOfUsable, FindsUsable, FailsUsable}

pub items_in : {A : Type 0} (all : List A) (numbers : List ℕ) (items : List A) → AreItemsOf all numbers items → (x : A) → In x items → In x all
items_in all [] [] are x i = absurd (no_in i)
items_in all [] (y ∷ items) are x i = absurd cc
items_in all (n ∷ numbers) [] are x i = absurd (no_in i)
items_in all (n ∷ numbers) (y ∷ items) are x i =
    let first : slice_get all n ≡ Some y = cc in
    let rest : map (slice_get all) numbers ≡ map (λ z. Some z) items = cc in
    elim (in_or i) [
      | inl same ↦ in_of_get all n x (first ∙ ap (λ z. Some z) (sym same))
      | inr later ↦ items_in all numbers items rest x later
    ]

ascends_few : {ns : List ℕ} → Ascends ns → (low most : ℕ) → ((n : ℕ) → In n ns → low ≤ n) → ((n : ℕ) → In n ns → n < most) → length ns ≤ most - low
ascends_few no_numbers low most above below = omega arith
ascends_few (number n ns less rest) low most above below =
    let tail = ascends_few rest (suc n) most (λ m i. let up = less m i in omega (arith, up)) (λ m i. below m (in_rest i)) in
    let a = above n in_first in
    let b = below n in_first in
    omega (arith, tail, a, b)

module _ (system : System) (valid : IsSystem system) where
  below_in_rules : (pairs : List DependencyPair) → ((p : DependencyPair) → In p pairs → In p (dependency_pairs system.rules)) → (f : ℕ)
      → In f (symbols_below_roots pairs) → In f (symbols_of_rules system.rules)
  below_in_rules [] from_all f i = absurd (no_in i)
  below_in_rules (p ∷ pairs) from_all f i = elim (in_either (symbols_of_all p.from.args ++ symbols_of_all p.to.args) (symbols_below_roots pairs) i) [
    | inl here ↦ symbols_below system valid p (from_all p in_first) f here
    | inr later ↦ below_in_rules pairs (λ q j. from_all q (in_rest j)) f later
  ]

  some_in_rules : (rules : List RewriteRule) → ((r : RewriteRule) → In r rules → In r system.rules) → (f : ℕ) → In f (symbols_of_rules rules) → In f (symbols_of_rules system.rules)
  some_in_rules [] from_all f i = absurd (no_in i)
  some_in_rules (r ∷ rules) from_all f i = elim (in_either (symbols_of r.left ++ symbols_of r.right) (symbols_of_rules rules) i) [
    | inl here ↦ rule_symbols system.rules r (from_all r in_first) f here
    | inr later ↦ some_in_rules rules (λ q j. from_all q (in_rest j)) f later
  ]

module _ (system : System) (valid : IsSystem system) (few : length system.arities ≤ 4095)
    (good : (p : DependencyPair) → In p (dependency_pairs system.rules) → IsPair system.arities p)
    (numbers : List ℕ) (taken : List DependencyPair) (are : ArePairsOf (dependency_pairs system.rules) numbers taken)
    (rule_numbers : List ℕ) (usable : List RewriteRule) (are_usable : AreUsableRules system.rules taken rule_numbers) (chosen : AreItemsOf system.rules rule_numbers usable)
    (symbols : List ℕ) (syms : AreSymbols (symbols_of_rules usable ++ symbols_below_roots taken) taken symbols) where
  pub plain_low : (f : ℕ) → In f (symbols_of_rules usable ++ symbols_below_roots taken) → f < 4096
  plain_low f i =
      let there : In f (symbols_of_rules system.rules) = elim (in_either (symbols_of_rules usable) (symbols_below_roots taken) i) [
        | inl rule ↦ some_in_rules system valid usable (items_in system.rules rule_numbers usable chosen) f rule
        | inr pair ↦ below_in_rules system valid taken (each_in (dependency_pairs system.rules) numbers taken are) f pair
      ] in
      let h = symbols_within system.arities system.rules (rule_well system valid) f there in
      omega (arith, h, few)

  pub distinct : AreDistinct symbols
  distinct = symbols_distinct (symbols_of_rules usable ++ symbols_below_roots taken) taken symbols plain_low syms

  pub all_low : All (λ f. f < 8192) symbols
  all_low = low_symbols (symbols_of_rules usable ++ symbols_below_roots taken) taken symbols plain_low
      (small_root system valid few good numbers (dependency_pairs system.rules) taken refl are) syms

  pub few_symbols : length symbols ≤ 8192
  few_symbols = few_by_numbers (symbols_of_rules usable ++ symbols_below_roots taken) taken symbols plain_low
      (small_root system valid few good numbers (dependency_pairs system.rules) taken refl are) syms

  number_low : (n : ℕ) → In n rule_numbers → n < length system.rules
  number_low n i =
      let (k, at) = get_of_in i in
      within_all (length system.rules) rule_numbers (usable_within system.rules taken rule_numbers are_usable) k n at

  few_usable : length usable ≤ length system.rules
  few_usable =
      let count = as_many system.rules rule_numbers usable chosen in
      let h = ascends_few are_usable.ascending 0 (length system.rules) (λ n _. omega arith) number_low in
      omega (arith, count, h)

  pub few_falling : length system.rules ≤ 4095 → length (dependency_pairs system.rules) ≤ 65536 → IsStrictlyIncreasing numbers
      → All (λ n. n < length (dependency_pairs system.rules)) numbers → length usable + length (map marked_rule taken) + 1 < 2 ^ 31
  few_falling few_rules few_all up within =
      let few_pairs = few_taken (dependency_pairs system.rules) numbers taken taken 65536 up within are refl few_all in
      let mapped = length-map taken marked_rule in
      let rules = few_usable in
      omega (arith, few_rules, few_pairs, mapped, rules)

  of_problem : AreOfUsable system numbers taken usable symbols
  of_problem = record { taken = are; rule_numbers = rule_numbers; usable = are_usable; chosen = chosen; are_symbols = syms }

  module _ (budget : ℕ) (rose : Type 0) where
    -- over these symbols, rules and marked pairs
    abbrev Answered : {E : Type 0} → List ℕ → List ℕ → List RewriteRule → List RewriteRule → Result (Search (List (ℕ × List ℕ))) E → Type 0
    Answered arities over rules pairs result =
        IfOk result (IsFinding (λ order. IsOrderOver (poly_entry arities) (poly_search arities over rules pairs) budget over order)
        (IsNotThere budget (puzzle_of (poly_search arities over rules pairs))) (IsSpent budget (puzzle_of (poly_search arities over rules pairs))) rose)

    -- for the problem
    abbrev FoundFor : {E : Type 0} → Result (Search (List (ℕ × List ℕ))) E → Type 0
    FoundFor result =
        IfOk result (IsFinding (λ order. FindsUsable system numbers budget order) (FailsUsable system numbers (IsNotThere budget)) (FailsUsable system numbers (IsSpent budget)) rose)

    found_here : {E : Type 0} (result : Result (Search (List (ℕ × List ℕ))) E) → Answered system.arities symbols usable (map marked_rule taken) result → FoundFor result
    found_here (Err e) h = h
    found_here (Ok (Found order)) h = record { pairs = taken; rules = usable; symbols = symbols; of_problem = of_problem; found = h }
    found_here (Ok NotThere) h = record { pairs = taken; rules = usable; symbols = symbols; of_problem = of_problem; fails = h }
    found_here (Ok Spent) h = record { pairs = taken; rules = usable; symbols = symbols; of_problem = of_problem; fails = h }
    found_here (Ok Stopped) h = h

    pub found_for : {E : Type 0} (arities over : List ℕ) (rules pairs : List RewriteRule) (result : Result (Search (List (ℕ × List ℕ))) E) → arities ≡ system.arities → over ≡ symbols
        → rules ≡ usable → pairs ≡ map marked_rule taken → Answered arities over rules pairs result → FoundFor result
    found_for arities over rules pairs result arities_are over_is rules_are pairs_are h =
        found_here result
        (subst (λ (l : List RewriteRule). Answered system.arities symbols usable l result) pairs_are
        (subst (λ (l : List RewriteRule). Answered system.arities symbols l pairs result) rules_are
        (subst (λ (l : List ℕ). Answered system.arities l rules pairs result) over_is
        (subst (λ (l : List ℕ). Answered l over rules pairs result) arities_are h))))
