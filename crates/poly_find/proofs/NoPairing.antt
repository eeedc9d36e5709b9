-- The pairing 8191 is no symbol of a system.
use Rattle.std.specs.Prelude.{◌≡◌, ◌≤◌, ◌<◌, ℕ, ◌+◌, true, false, ◌==◌, List, [], ◌∷◌, length, map}
use Rattle.std.proofs.Common.{subst, arith, inl, inr}
use Rattle.std.proofs.lemmas.Option.{slice_get_within}
use Rattle.trs_defs.specs.Member.{In, in_first, in_rest}
use Rattle.trs_defs.specs.Tree.{count}
use Rattle.trs_defs.specs.Variable.{is_listed}
use Rattle.trs_defs.specs.System.{System, IsSystem}
use Rattle.trs_defs.proofs.Members.{in_or, no_in, in_either, of_map}
use Rattle.pair_theory.specs.DependencyPair.{DependencyPair}
use Rattle.pair_theory.specs.PairProblem.{IsPair}
use Rattle.order_search.specs.dp_core.Symbols.{symbols_of_rules}
use Rattle.order_search.specs.dp_core.SubtermConditions.{roots_of}
use Rattle.assign_search.proofs.Refuting.{true_or_false}
use Rattle.order_search.proofs.FewPairs.{roots_small}
use Rattle.order_search.specs.OrderRow.{AreSymbols}
use Rattle.order_search.proofs.Covered.{plain_small}
use Rattle.order_search.proofs.Tests.{same_number, either}

pub in_listed : (f : ℕ) (xs : List ℕ) → is_listed f xs ≡ true → In f xs
in_listed f [] e = absurd cc
in_listed f (x ∷ xs) e = elim (either (x == f) (is_listed f xs) e) [
  | inl here ↦ subst (λ (y : ℕ). In y (x ∷ xs)) (same_number x f here) in_first
  | inr later ↦ in_rest (in_listed f xs later)
]

pub roots_within : (arities : List ℕ) (ps : List DependencyPair) → ((p : DependencyPair) → In p ps → IsPair arities p) → (f : ℕ) → In f (roots_of ps) → f < length arities
roots_within arities [] well f i = absurd (no_in i)
roots_within arities (p ∷ ps) well f i =
    let here = well p in_first in
    elim (in_or i) [
      | inl from ↦ (let small = slice_get_within arities p.from.symbol (count p.from.args) here.from_well_formed.0 in omega (arith, small, from))
      | inr later ↦ elim (in_or later) [
        | inl to ↦ (let small = slice_get_within arities p.to.symbol (count p.to.args) here.to_well_formed.0 in omega (arith, small, to))
        | inr more ↦ roots_within arities ps (λ q j. well q (in_rest j)) f more
      ]
    ]

pub no_pairing_by : (unmarked : List ℕ) (pairs : List DependencyPair) (symbols : List ℕ) → ((f : ℕ) → In f unmarked → f < 4096) → ((f : ℕ) → In f (roots_of pairs) → f < 4095)
    → AreSymbols unmarked pairs symbols → is_listed 8191 symbols ≡ false
no_pairing_by unmarked pairs symbols low low_roots are = elim (true_or_false (is_listed 8191 symbols)) [
  | inl there ↦ elim (in_either are.plain (map (λ f. f + 4096) are.roots) (subst (λ (l : List ℕ). In 8191 l) are.together (in_listed 8191 symbols there))) [
    | inl plain ↦ (let small = low 8191 ((are.are_plain.each 8191).0 plain) in absurd (omega (arith, small)))
    | inr root ↦ (let (g, j, e) = of_map (λ (z : ℕ). z + 4096) are.roots root in
        let small = low_roots g ((are.are_roots.each g).0 j) in
        absurd (omega (arith, small, e)))
  ]
  | inr missing ↦ missing
]

pub no_pairing : (system : System) → IsSystem system → length system.arities ≤ 4095 → (pairs : List DependencyPair)
    → ((p : DependencyPair) → In p pairs → IsPair system.arities p) → (symbols : List ℕ) → AreSymbols (symbols_of_rules system.rules) pairs symbols
    → is_listed 8191 symbols ≡ false
no_pairing system valid few pairs well symbols are =
    no_pairing_by (symbols_of_rules system.rules) pairs symbols
    (plain_small system valid few pairs (λ f i. roots_small system.arities few pairs well f i) symbols are)
    (λ f i. let small = roots_within system.arities pairs well f i in omega (arith, few, small)) are
