-- The pairs of a problem and their roots are few.
use Rattle.std.specs.Prelude.{◌≡◌, ◌<◌, ◌≤◌, ◌⊎◌, ℕ, ◌+◌, List, [], ◌∷◌, length, All, get_or, Some}
use Rattle.std.specs.List.Sorted.{IsStrictlyIncreasing}
use Rattle.std.proofs.Common.{zero, suc, refl, ap, subst, arith, inl, inr}
use Rattle.trs_defs.specs.Member.{In, in_first, in_rest}
use Rattle.trs_defs.proofs.Members.{in_or, no_in}
use Rattle.pair_theory.specs.Marked.{plain}
use Rattle.pair_theory.specs.DependencyPair.{DependencyPair}
use Rattle.pair_theory.specs.PairProblem.{IsPair}
use Rattle.dp_core.specs.Numbered.{ArePairsOf}
use Rattle.dp_core.specs.SubtermConditions.{roots_of}
use Rattle.dp_core.proofs.NumberedPairs.{as_many}
use Rattle.dp_core.proofs.PairSides.{small_symbol}
use Rattle.dp_core.proofs.Conclusions.{each_in}
use Rattle.order_search.specs.Ascending.{AreAscending}
use Rattle.order_search.proofs.RootSets.{in_at}

at_least : (xs : List ℕ) → IsStrictlyIncreasing xs → (k : ℕ) → k < length xs → k ≤ get_or xs k 0
at_least xs up zero below = omega arith
at_least xs up (suc k) below =
    let before = at_least xs up k (omega (arith, below)) in
    let step : get_or xs k 0 < get_or xs (k + 1) 0 = up k (omega (arith, below)) in
    let at : k + 1 ≡ suc k = omega arith in
    subst (λ (j : ℕ). suc k ≤ get_or xs j 0) at (omega (arith, before, step))

last_of : (n : ℕ) → (n ≡ 0) ⊎ ((k : ℕ) × (n ≡ suc k))
last_of zero = inl refl
last_of (suc k) = inr (k, refl)

pub length_below : (xs : List ℕ) (most : ℕ) → IsStrictlyIncreasing xs → All (λ n. n < most) xs → length xs ≤ most
length_below xs most up all = elim (last_of (length xs)) [
  | inl none ↦ omega (arith, none)
  | inr some ↦
      (let (k, e) = some in
      let a = at_least xs up k (omega (arith, e)) in
      let b = all k 0 (omega (arith, e)) in
      omega (arith, a, b, e))
]

pub few_taken : (all : List DependencyPair) (numbers : List ℕ) (taken pairs : List DependencyPair) (most : ℕ) → IsStrictlyIncreasing numbers → All (λ n. n < length all) numbers
    → ArePairsOf all numbers taken → pairs ≡ taken → length all ≤ most → length pairs ≤ most
few_taken all numbers taken pairs most up within are same few =
    let a = length_below numbers (length all) up within in
    let b = as_many all numbers taken are in
    let c : length pairs ≡ length taken = ap length same in
    omega (arith, a, b, c, few)

some_same : {A : Type 0} (x y : A) → Some x ≡ Some y → x ≡ y
some_same x y e = cc

pub roots_small : (arities : List ℕ) → length arities ≤ 4095 → (ps : List DependencyPair) → ((p : DependencyPair) → In p ps → IsPair arities p) → (f : ℕ) → In f (roots_of ps) → f < 4096
roots_small arities few [] well f i = absurd (no_in i)
roots_small arities few (p ∷ ps) well f i =
    let here = well p in_first in
    elim (in_or i) [
      | inl from ↦ (let small = small_symbol arities few (plain p.from) p.from here.from_well_formed refl in omega (arith, small, from))
      | inr later ↦ elim (in_or later) [
        | inl to ↦ (let small = small_symbol arities few (plain p.to) p.to here.to_well_formed refl in omega (arith, small, to))
        | inr more ↦ roots_small arities few ps (λ q j. well q (in_rest j)) f more
      ]
    ]

pub few_roots : (arities : List ℕ) → length arities ≤ 4095 → (all : List DependencyPair) → ((p : DependencyPair) → In p all → IsPair arities p) → (numbers : List ℕ) (taken : List DependencyPair)
    → ArePairsOf all numbers taken → (listed : List DependencyPair) (items roots : List ℕ) → listed ≡ taken → AreAscending (roots_of listed) items → roots ≡ items → length roots ≤ 4096
few_roots arities few all well numbers taken are listed items roots same ascending is =
    let small : (f : ℕ) → In f (roots_of listed) → f < 4096 = λ f i.
    roots_small arities few taken (λ p j. well p (each_in all numbers taken are p j)) f (subst (λ (l : List DependencyPair). In f (roots_of l)) same i) in
    let below = length_below items 4096 ascending.increasing (λ k d within. small (get_or items k d) ((ascending.each (get_or items k d)).0 (in_at items k d (get_or items k d) within refl))) in
    let e : length roots ≡ length items = ap length is in
    omega (arith, below, e)
