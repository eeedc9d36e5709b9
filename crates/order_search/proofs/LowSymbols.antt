-- The symbols of a search have numbers below 8,192.
use Rattle.std.specs.Prelude.{◌≡◌, ◌<◌, ◌≤◌, ℕ, ◌+◌, List, ◌++◌, length, map, All}
use Rattle.std.proofs.lemmas.List.{length-append, length-map}
use Rattle.std.proofs.Common.{inl, inr, ap, subst, arith}
use Rattle.trs_defs.specs.Member.{In}
use Rattle.trs_defs.proofs.Members.{in_either, of_map}
use Rattle.pair_theory.specs.DependencyPair.{DependencyPair}
use Rattle.dp_core.specs.SubtermConditions.{roots_of}
use Rattle.order_search.specs.OrderRow.{AreSymbols}
use Rattle.order_search.proofs.Covered.{all_small, few_listed}

pub low_symbols : (unmarked : List ℕ) (pairs : List DependencyPair) (symbols : List ℕ) → ((f : ℕ) → In f unmarked → f < 4096)
    → ((f : ℕ) → In f (roots_of pairs) → f < 4096) → AreSymbols unmarked pairs symbols → All (λ f. f < 8192) symbols
low_symbols unmarked pairs symbols plain roots are =
    all_small symbols 8192
    (λ f i. elim (in_either are.plain (map (λ g. g + 4096) are.roots) (subst (λ (l : List ℕ). In f l) are.together i)) [
      | inl here ↦ (let low = plain f ((are.are_plain.each f).0 here) in omega (arith, low))
      | inr marked ↦ (let (g, j, e) = of_map (λ (z : ℕ). z + 4096) are.roots marked in let low = roots g ((are.are_roots.each g).0 j) in omega (arith, low, e))
    ])

pub few_by_numbers : (unmarked : List ℕ) (pairs : List DependencyPair) (symbols : List ℕ) → ((f : ℕ) → In f unmarked → f < 4096)
    → ((f : ℕ) → In f (roots_of pairs) → f < 4096) → AreSymbols unmarked pairs symbols → length symbols ≤ 8192
few_by_numbers unmarked pairs symbols plain roots are =
    let a = few_listed are.plain 4096 are.are_plain.increasing (λ f i. plain f ((are.are_plain.each f).0 i)) in
    let b = few_listed are.roots 4096 are.are_roots.increasing (λ f i. roots f ((are.are_roots.each f).0 i)) in
    let both = length-append are.plain (map (λ f. f + 4096) are.roots) in
    let marked = length-map are.roots (λ f. f + 4096) in
    let all : length symbols ≡ length (are.plain ++ map (λ f. f + 4096) are.roots) = ap length are.together in
    omega (arith, a, b, both, marked, all)
