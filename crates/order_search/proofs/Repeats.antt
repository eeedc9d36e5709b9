-- The symbols that an order needs values for stand once each, and where their slots begin.
use Rattle.std.specs.Prelude.{◌≡◌, ◌<◌, ℕ, ◌+◌, ◌*◌, false, true, Bool, ◌==◌, if◌then◌else◌, List, [], ◌∷◌, ◌++◌, length, map, get_or, Option, Some, option_map}
use Rattle.std.specs.List.Sorted.{IsStrictlyIncreasing}
use Rattle.std.proofs.Common.{zero, suc, inl, inr, refl, sym, ap, subst, arith, ◌∙◌}
use Rattle.std.proofs.lemmas.List.Kept.{AllPairs-from_increasing}
use Rattle.trs_defs.specs.Member.{In, in_first, in_rest}
use Rattle.trs_defs.proofs.Members.{in_or, no_in, in_either, of_map}
use Rattle.pair_theory.specs.DependencyPair.{DependencyPair}
use Rattle.order_search.proofs.RootSets.{in_at}
use Rattle.order_search.specs.OrderRow.{AreSymbols}
use Rattle.order_search.specs.Distinct.{AreDistinct}
use Rattle.order_search.proofs.SlotLayout.{start_of}
use Rattle.order_search.proofs.Tests.{self_test, other_test}

in_index : (xs : List ℕ) (x : ℕ) → In x xs → (k : ℕ) × (k < length xs) × (get_or xs k 0 ≡ x)
in_index [] x i = absurd (no_in i)
in_index (y ∷ ys) x i = elim (in_or i) [
  | inl same ↦ (0, omega arith, sym same)
  | inr later ↦ (let (k, below, e) = in_index ys x later in (suc k, omega (arith, below), e))
]

-- none of the numbers stands behind itself
abbrev pub StandOnce : List ℕ → Type 0
StandOnce [] = Unit {0}
StandOnce (n ∷ ns) = (In n ns → ⊥) × StandOnce ns

pub once_distinct : (xs : List ℕ) → StandOnce xs → AreDistinct xs
once_distinct [] once i j before within e = absurd (omega (arith, within))
once_distinct (x ∷ xs) once i zero before within e = absurd (omega (arith, before))
once_distinct (x ∷ xs) once zero (suc j) before within e = once.0 (in_at xs j 0 x (omega (arith, within)) (sym e))
once_distinct (x ∷ xs) once (suc i) (suc j) before within e = once_distinct xs once.1 i j (omega (arith, before)) (omega (arith, within)) e

tail_increases : (x : ℕ) (xs : List ℕ) → IsStrictlyIncreasing (x ∷ xs) → IsStrictlyIncreasing xs
tail_increases x xs up k below =
    let next : get_or xs k 0 < get_or (x ∷ xs) (suc k + 1) 0 = up (suc k) (omega (arith, below)) in
    let at : suc k + 1 ≡ suc (k + 1) = omega arith in
    subst (λ (j : ℕ). get_or xs k 0 < get_or (x ∷ xs) j 0) at next

pub distinct_of : (xs : List ℕ) → IsStrictlyIncreasing xs → StandOnce xs
distinct_of [] up = tt
distinct_of (x ∷ xs) up = (
  λ i.
      (let (k, below, e) = in_index xs x i in
      let pairs = AllPairs-from_increasing (x ∷ xs) up in
      let first : x < get_or xs k 0 = pairs 0 (suc k) 0 (omega arith) (omega (arith, below)) in
      omega (arith, first, e)),
  distinct_of xs (tail_increases x xs up),
)

both_distinct : (xs ys : List ℕ) → StandOnce xs → StandOnce ys → ((x : ℕ) → In x xs → In x ys → ⊥) → StandOnce (xs ++ ys)
both_distinct [] ys first second apart = second
both_distinct (x ∷ xs) ys first second apart = (
  λ i. elim (in_either xs ys i) [ inl here ↦ first.0 here | inr there ↦ apart x in_first there ],
  both_distinct xs ys first.1 second (λ y i j. apart y (in_rest i) j),
)

moved_distinct : (xs : List ℕ) (n : ℕ) → StandOnce xs → StandOnce (map (λ x. x + n) xs)
moved_distinct [] n are = tt
moved_distinct (x ∷ xs) n are = (
  λ i.
      (let (y, j, e) = of_map (λ (z : ℕ). z + n) xs i in
      let same : x ≡ y = omega (arith, e) in
      are.0 (subst (λ (z : ℕ). In z xs) (sym same) j)),
  moved_distinct xs n are.1,
)

pub symbols_distinct : (unmarked : List ℕ) (pairs : List DependencyPair) (symbols : List ℕ) → ((f : ℕ) → In f unmarked → f < 4096)
    → AreSymbols unmarked pairs symbols → AreDistinct symbols
symbols_distinct unmarked pairs symbols small are =
    subst AreDistinct (sym are.together)
    (once_distinct (are.plain ++ map (λ f. f + 4096) are.roots)
    (both_distinct are.plain (map (λ f. f + 4096) are.roots) (distinct_of are.plain are.are_plain.increasing)
    (moved_distinct are.roots 4096 (distinct_of are.roots are.are_roots.increasing))
    (λ f i j.
    let (g, k, e) = of_map (λ (z : ℕ). z + 4096) are.roots j in
    let below = small f ((are.are_plain.each f).0 i) in
    omega (arith, e, below))))

pub found_first : (b : Bool) (o : Option ℕ) → b ≡ true → (if b then Some 0 else o) ≡ Some 0
found_first true o e = refl
found_first false o e = absurd cc

pub found_later : (b : Bool) (o : Option ℕ) → b ≡ false → (if b then Some 0 else o) ≡ o
found_later true o e = absurd cc
found_later false o e = refl

pub tail_distinct : (x : ℕ) (xs : List ℕ) → AreDistinct (x ∷ xs) → AreDistinct xs
tail_distinct x xs are i j before within e = are (suc i) (suc j) (omega (arith, before)) (omega (arith, within)) e

-- with two parts for each symbol
pub starts_at : (symbols : List ℕ) (i : ℕ) → AreDistinct symbols → i < length symbols → start_of (λ _. 2) symbols (get_or symbols i 0) ≡ Some (2 * i)
starts_at [] i are below = absurd (omega (arith, below))
starts_at (f ∷ symbols) zero are below = found_first (f == f) _ (self_test f)
starts_at (f ∷ symbols) (suc i) are below =
    let within : i < length symbols = omega (arith, below) in
    let other : (f == get_or symbols i 0) ≡ false = other_test f (get_or symbols i 0) (λ e. are 0 (suc i) (omega arith) below (sym e)) in
    let at : 2 + 2 * i ≡ 2 * suc i = omega arith in
    found_later (f == get_or symbols i 0) _ other
    ∙ (ap (λ o. option_map (λ n. 2 + n) o) (starts_at symbols i (tail_distinct f symbols are) within) ∙ ap (λ (n : ℕ). Some n) at)
