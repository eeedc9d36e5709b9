-- A walk that looks for a variable with a big coefficient, window by window.
use Rattle.std.proofs.Common.{◌≡◌, ℕ, ◌+◌, ◌-◌, ◌≤◌, ◌<◌, ◌^◌, zero, suc, inl, inr, subst, arith, Bool, true, false, ◌||◌, refl, List, [], ◌∷◌, length, min, Option, Some, None, slice_index, nat_lt}
use Rattle.std.proofs.lemmas.Bool.{cases_lt, or_parts}
use Rattle.std.proofs.lemmas.Bool.Decides.{nat_tests}
use Rattle.trs_defs.specs.Tree.{Tree}
use Rattle.order_theory.specs.LinearInterpretation.{coefficient}
use Rattle.poly_lin.specs.Covering.{HasNoneBefore}
use Rattle.poly_lin.specs.Faults.{has_big}
use Rattle.poly_lin.specs.TooBig.{AreSmall}

big_at : (xs : List ℕ) → has_big xs ≡ true → (i : ℕ) × (i < length xs) × (2 ^ 63 ≤ slice_index xs i)
big_at [] e = absurd cc
big_at (x ∷ xs) e = go (nat_lt 9223372036854775807 x) refl e (big_at xs)
  where
    go : (b : Bool) → nat_lt 9223372036854775807 x ≡ b → (b || has_big xs) ≡ true → (has_big xs ≡ true → (i : ℕ) × (i < length xs) × (2 ^ 63 ≤ slice_index xs i))
        → (i : ℕ) × (i < suc (length xs)) × (2 ^ 63 ≤ slice_index (x ∷ xs) i)
    go true e is rest = (0, omega arith, grind (arith, nat_tests))
    go false e is rest = let (i, less, big) = rest is in (suc i, omega arith, big)

none_big : (xs : List ℕ) → has_big xs ≡ false → (i : ℕ) → slice_index xs i < 2 ^ 63
none_big [] e i = omega arith
none_big (x ∷ xs) e zero =
    let first = or_parts (nat_lt 9223372036854775807 x) (has_big xs) e in grind (arith, nat_tests)
none_big (x ∷ xs) e (suc i) = none_big xs (or_parts (nat_lt 9223372036854775807 x) (has_big xs) e).1 i

module _ (c : ℕ → ℕ → ℕ) (t : Tree) where
  pub none_small : AreSmall c t (Some 0)
  none_small x below = absurd (omega arith)

  pub all_small : (next : Option ℕ) → next ≡ None → AreSmall c t next → (x : ℕ) × (2 ^ 63 ≤ coefficient c x t) → ⊥
  all_small next none small (x, big) = let less : coefficient c x t < 2 ^ 63 = subst (λ o. AreSmall c t o) none small x tt in omega arith

  module _ (from w : ℕ) (sums : List ℕ) (is : (i : ℕ) → i < w → min (slice_index sums i) (2 ^ 64 - 1) ≡ min (coefficient c (from + i) t) (2 ^ 64 - 1)) where
    pub some_big : length sums ≡ w → has_big sums ≡ true → (x : ℕ) × (2 ^ 63 ≤ coefficient c x t)
    some_big long e =
        let (i, less, big) = big_at sums e in
        let same = is i (omega arith) in
        (from + i, omega (arith, same, big))

    pub more_small : (next : Option ℕ) → AreSmall c t (Some from) → has_big sums ≡ false → HasNoneBefore c (from + w) t None next → AreSmall c t next
    more_small next before e none x below = elim (cases_lt x from) [
      | inl less ↦ before x less
      | inr more ↦ elim (cases_lt x (from + w)) [
        | inl inside ↦ let at : from + (x - from) ≡ x = omega arith in
            let small = none_big sums e (x - from) in
            let same = is (x - from) (omega arith) in
            let there : coefficient c (from + (x - from)) t < 2 ^ 63 = omega (arith, same, small) in
            subst (λ y. coefficient c y t < 2 ^ 63) at there
        | inr behind ↦ let nothing = (none x behind below).1 in omega (arith, nothing)
      ]
    ]
