-- A walk that adds the coefficients of several variables, argument by argument, and the comparison of what it adds.
use Rattle.std.proofs.Common.{◌≡◌, ℕ, ◌+◌, ◌*◌, ◌-◌, ◌≤◌, ◌<◌, ◌^◌, ◌↔◌, Bool, List, min, suc, inl, inr, sym, subst, ap, ◌∙◌, arith, add-one, Option, Some, None, IsTrue, false, slice_index, replicate}
use Rattle.std.proofs.lemmas.Bool.{cases_lt}
use Rattle.std.proofs.lemmas.List.{get_or-replicate}
use Rattle.trs_defs.specs.Tree.{Tree, Trees, app, nil, cons}
use Rattle.order_theory.specs.LinearInterpretation.{coefficient, coefficients}
use Rattle.trs_defs.specs.LeastVariable.{IsBelow, IsFrom}
use Rattle.poly_lin.specs.Covering.{CoversAt, Covers, AreCovered, AreAdded, HasNoneBefore}
use Rattle.poly_lin.proofs.Saturation.{multiple_saturates}

times_none : (k : ℕ) → k * 0 ≡ 0
times_none k = grind arith

share_of : (k n p q : ℕ) → k * (n * p + q) ≡ p * (k * n) + k * q
share_of k n p q = grind arith

turned : (a b : ℕ) → a * b ≡ b * a
turned a b = grind arith

sum_of_saturated : (sum new product whole p q rest : ℕ) → min product (2 ^ 64 - 1) ≡ min p (2 ^ 64 - 1) → min new (2 ^ 64 - 1) ≡ min (sum + product) (2 ^ 64 - 1)
    → q ≡ p + rest → min (sum + q) (2 ^ 64 - 1) ≡ min whole (2 ^ 64 - 1) → min (new + rest) (2 ^ 64 - 1) ≡ min whole (2 ^ 64 - 1)
sum_of_saturated sum new product whole p q rest e d s h = omega arith

module _ (c : ℕ → ℕ → ℕ) (w from factor : ℕ) where
  -- what a walk over the arguments has still to add
  abbrev pub Remains : ℕ → Tree → List ℕ → List ℕ → ℕ → Trees → Type 0
  Remains f t before sums i rest = (j : ℕ) → j < w →
      min (slice_index sums j + factor * coefficients c (from + j) f i rest) (2 ^ 64 - 1) ≡ min (slice_index before j + factor * coefficient c (from + j) t) (2 ^ 64 - 1)

  pub all_remains : (f : ℕ) (ts : Trees) (t : Tree) (before : List ℕ) → t ≡ app f ts → Remains f t before before 1 ts
  all_remains f ts t before is j small = ap (λ u. min (slice_index before j + factor * coefficient c (from + j) u) (2 ^ 64 - 1)) (sym is)

  module _ (f : ℕ) (t : Tree) (before sums : List ℕ) (i : ℕ) (u : Tree) (rest : Trees) (k : ℕ) (is : k ≡ c f i) (h : Remains f t before sums i (cons u rest)) where
    opened : (j : ℕ) → factor * coefficients c (from + j) f i (cons u rest) ≡ coefficient c (from + j) u * (factor * k) + factor * coefficients c (from + j) f (suc i) rest
    opened j = ap (λ n. factor * (n * coefficient c (from + j) u + coefficients c (from + j) f (suc i) rest)) (sym is)
        ∙ share_of factor k (coefficient c (from + j) u) (coefficients c (from + j) f (suc i) rest)

    pub rest_remains : k ≡ 0 → Remains f t before sums (i + 1) rest
    rest_remains none = rw add-one (λ j small.
        let nothing : coefficient c (from + j) u * (factor * k) ≡ 0 = rw (none, times_none factor) (times_none (coefficient c (from + j) u)) in
        let whole : factor * coefficients c (from + j) f i (cons u rest) ≡ factor * coefficients c (from + j) f (suc i) rest = omega (arith, opened j, nothing) in
        ap (λ n. min (slice_index sums j + n) (2 ^ 64 - 1)) (sym whole) ∙ h j small
        )

    pub more_added : (v : ℕ) (new : List ℕ) → v ≡ min (factor * k) (2 ^ 64 - 1) → AreAdded c w from v u sums new → Remains f t before new (i + 1) rest
    more_added v new e added = rw add-one (λ j small.
        let q = coefficient c (from + j) u in
        let product : min (v * q) (2 ^ 64 - 1) ≡ min (q * (factor * k)) (2 ^ 64 - 1) =
        ap (λ n. min n (2 ^ 64 - 1)) (turned v q) ∙ multiple_saturates q (factor * k) v e in
        sum_of_saturated (slice_index sums j) (slice_index new j) (v * q) (slice_index before j + factor * coefficient c (from + j) t) (q * (factor * k)) (factor * coefficients c (from + j) f i (cons u rest))
        (factor * coefficients c (from + j) f (suc i) rest) product (added j small) (opened j) (h j small)
        )

  pub none_remains : (f : ℕ) (t : Tree) (before sums : List ℕ) (i : ℕ) → Remains f t before sums i nil → AreAdded c w from factor t before sums
  none_remains f t before sums i h j small =
      let none : factor * 0 ≡ 0 = times_none factor in
      let same : slice_index sums j + factor * 0 ≡ slice_index sums j = omega (arith, none) in
      ap (λ n. min n (2 ^ 64 - 1)) (sym same) ∙ h j small

module _ (c : ℕ → ℕ → ℕ) (end : ℕ) where
  -- what a walk over the arguments knows of the variables before the next one
  abbrev pub IsNext : ℕ → Tree → Option ℕ → Option ℕ → ℕ → Trees → Type 0
  IsNext f t best next i rest = (y : ℕ) → end ≤ y → IsBelow y next → IsBelow y best × (coefficient c y t ≡ coefficients c y f i rest)

  pub first_next : (f : ℕ) (ts : Trees) (t : Tree) (best : Option ℕ) → t ≡ app f ts → IsNext f t best best 1 ts
  first_next f ts t best is y behind below = (below, ap (coefficient c y) is)

  module _ (f : ℕ) (t : Tree) (best next : Option ℕ) (i : ℕ) (u : Tree) (rest : Trees) (k : ℕ) (is : k ≡ c f i) (h : IsNext f t best next i (cons u rest)) where
    pub same_next : k ≡ 0 → IsNext f t best next (i + 1) rest
    same_next none = rw add-one (λ y behind below.
        let so_far = h y behind below in
        let product = ap (λ n. n * coefficient c y u) (sym is ∙ none) in
        let nothing : c f i * coefficient c y u ≡ 0 = omega (arith, product) in
        (so_far.0, omega (arith, so_far.1, nothing))
        )

    pub later_next : (new : Option ℕ) → HasNoneBefore c end u next new → IsNext f t best new (i + 1) rest
    later_next new before = rw add-one (λ y behind below.
        let here = before y behind below in
        let so_far = h y behind here.0 in
        let nothing : c f i * coefficient c y u ≡ 0 = ap (λ n. c f i * n) here.1 ∙ times_none (c f i) in
        (so_far.0, omega (arith, so_far.1, nothing))
        )

  pub last_next : (f : ℕ) (t : Tree) (best next : Option ℕ) (i : ℕ) → IsNext f t best next i nil → HasNoneBefore c end t best next
  last_next f t best next i h = h

abbrev pub zeros : ℕ → List ℕ
zeros w = replicate w 0

zero_at : (w i : ℕ) → i < w → slice_index (zeros w) i ≡ 0
zero_at w i small = get_or-replicate w i 0 0 small

module _ (c : ℕ → ℕ → ℕ) (w from : ℕ) (u : Tree) (sums : List ℕ) (at : AreAdded c w from 1 u (zeros w) sums) where
  -- what is added to zeros
  pub sums_are : (i : ℕ) → i < w → min (slice_index sums i) (2 ^ 64 - 1) ≡ min (coefficient c (from + i) u) (2 ^ 64 - 1)
  sums_are i small =
      let e = zero_at w i small in
      let same : slice_index (zeros w) i + 1 * coefficient c (from + i) u ≡ coefficient c (from + i) u = omega (arith, e) in
      at i small ∙ ap (λ n. min n (2 ^ 64 - 1)) same

  pub these_covered : (right : List ℕ) (b : Bool) → IsTrue b ↔ ((i : ℕ) → i < w → min (slice_index right i) (2 ^ 64 - 1) ≤ min (slice_index sums i) (2 ^ 64 - 1))
      → IsTrue b ↔ ((i : ℕ) → i < w → min (slice_index right i) (2 ^ 64 - 1) ≤ min (coefficient c (from + i) u) (2 ^ 64 - 1))
  these_covered right b h = (
    λ yes i small. let le = h.0 yes i small in omega (arith, le, sums_are i small),
    λ all. h.1 (λ i small. let le = all i small in omega (arith, le, sums_are i small)),
  )

pub none_to_cover : (w : ℕ) (right : List ℕ) (n : ℕ → ℕ) → ((i : ℕ) → i < w → min (slice_index right i) (2 ^ 64 - 1) ≤ min (slice_index (zeros w) i) (2 ^ 64 - 1))
    → (i : ℕ) → i < w → min (slice_index right i) (2 ^ 64 - 1) ≤ min (n i) (2 ^ 64 - 1)
none_to_cover w right n h i small = let le = h i small in let e = zero_at w i small in omega (arith, le, e)

module _ (c : ℕ → ℕ → ℕ) (s t : Tree) where
  module _ (w from : ℕ) (right : List ℕ) (right_is : (i : ℕ) → i < w → min (slice_index right i) (2 ^ 64 - 1) ≡ min (coefficient c (from + i) t) (2 ^ 64 - 1)) where
    pub more_covered : (next : Option ℕ) → AreCovered c s t (Some from)
        → ((i : ℕ) → i < w → min (slice_index right i) (2 ^ 64 - 1) ≤ min (coefficient c (from + i) s) (2 ^ 64 - 1))
        → HasNoneBefore c (from + w) t None next → AreCovered c s t next
    more_covered next before here none x below = elim (cases_lt x from) [
      | inl less ↦ before x less
      | inr more ↦ elim (cases_lt x (from + w)) [
        | inl inside ↦ let at : from + (x - from) ≡ x = omega arith in
            let i = x - from in
            let small : x - from < w = omega arith in
            let le = here (x - from) small in
            let e = right_is (x - from) small in
            let there : CoversAt c s t (from + (x - from)) = omega (arith, le, e) in
            subst (CoversAt c s t) at there
        | inr behind ↦ let e = (none x behind below).1 in omega (arith, e)
      ]
    ]

    pub all_there : Covers c s t → (i : ℕ) → i < w → min (slice_index right i) (2 ^ 64 - 1) ≤ min (coefficient c (from + i) s) (2 ^ 64 - 1)
    all_there all i small = let le = all (from + i) in omega (arith, le, right_is i small)

    pub not_all : (b : Bool) → (IsTrue b ↔ ((i : ℕ) → i < w → min (slice_index right i) (2 ^ 64 - 1) ≤ min (coefficient c (from + i) s) (2 ^ 64 - 1)))
        → b ≡ false → Covers c s t → ⊥
    not_all b h is all = let there = h.1 (all_there all) in absurd (cc (there, is))

    -- where the coefficients on the left are known
    module _ (known : List ℕ) (known_is : (i : ℕ) → i < w → min (slice_index known i) (2 ^ 64 - 1) ≡ min (coefficient c (from + i) s) (2 ^ 64 - 1)) where
      pub known_there : ((i : ℕ) → i < w → min (slice_index right i) (2 ^ 64 - 1) ≤ min (slice_index known i) (2 ^ 64 - 1))
          → (i : ℕ) → i < w → min (slice_index right i) (2 ^ 64 - 1) ≤ min (coefficient c (from + i) s) (2 ^ 64 - 1)
      known_there h i small = let le = h i small in omega (arith, le, known_is i small)

      pub not_known : (b : Bool) → (IsTrue b ↔ ((i : ℕ) → i < w → min (slice_index right i) (2 ^ 64 - 1) ≤ min (slice_index known i) (2 ^ 64 - 1)))
          → b ≡ false → Covers c s t → ⊥
      not_known b h is all =
          let there = h.1 (λ i small. let le = all_there all i small in omega (arith, le, known_is i small)) in absurd (cc (there, is))

pub none_covered : (c : ℕ → ℕ → ℕ) (s t : Tree) → AreCovered c s t (Some 0)
none_covered c s t x below = absurd (omega arith)

pub after_window : (w from : ℕ) (next : Option ℕ) → 0 < w → IsFrom (from + w) next → IsFrom (from + 1) next
after_window w from None some h = tt
after_window w from (Some x) some h = omega arith

-- how many numbers are left from the next one on
abbrev pub left : Option ℕ → ℕ
left None = 0
left (Some x) = suc (2 ^ 32 - x)

pub fewer_left : (from : ℕ) (next : Option ℕ) → from < 2 ^ 32 → IsFrom (from + 1) next → left next < suc (2 ^ 32 - from)
fewer_left from None small h = omega arith
fewer_left from (Some x) small h = omega arith
