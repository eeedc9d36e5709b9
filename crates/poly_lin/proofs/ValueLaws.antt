-- A polynomial's value where variables stand for 0 is its constant; where they stand for 1, neither the constant nor
-- a coefficient is greater.
use Rattle.std.proofs.Common.{◌≡◌, ℕ, ◌-◌, ◌≤◌, ◌^◌, ◌↔◌, min, inl, inr, suc, refl, arith, Bool, true, false, IsTrue, ◌==◌, if◌then◌else◌}
use Rattle.trs_defs.specs.Tree.{Tree, Trees, var, app, nil, cons}
use Rattle.order_theory.specs.LinearInterpretation.{value, values, constant, constants, coefficient, coefficients}
use Rattle.order_theory.proofs.Coefficients.{mul_le_right}
use Rattle.poly_lin.specs.TooBig.{IsBig}

one_at_most : (b : Bool) → (if b then 1 else 0) ≤ 1
one_at_most true = omega arith
one_at_most false = omega arith

module _ (c : ℕ → ℕ → ℕ) where
  mutual
    pub value_at_none : (t : Tree) → value c (λ x. 0) t ≡ constant c t
    value_at_none (var x) = refl
    value_at_none (app f ts) = omega (arith, values_at_none f 1 ts)

    values_at_none : (f i : ℕ) (ts : Trees) → values c (λ x. 0) f i ts ≡ constants c f i ts
    values_at_none f i nil = refl
    values_at_none f i (cons t ts) = rw (value_at_none t, values_at_none f (suc i) ts) refl

  mutual
    constant_at_most : (t : Tree) → constant c t ≤ value c (λ x. 1) t
    constant_at_most (var x) = omega arith
    constant_at_most (app f ts) = omega (arith, constants_at_most f 1 ts)

    constants_at_most : (f i : ℕ) (ts : Trees) → constants c f i ts ≤ values c (λ x. 1) f i ts
    constants_at_most f i nil = omega arith
    constants_at_most f i (cons t ts) =
        let first = mul_le_right (c f i) (constant c t) (value c (λ x. 1) t) (constant_at_most t) in
        omega (arith, first, constants_at_most f (suc i) ts)

  mutual
    coefficient_at_most : (x : ℕ) (t : Tree) → coefficient c x t ≤ value c (λ y. 1) t
    coefficient_at_most x (var y) = one_at_most (y == x)
    coefficient_at_most x (app f ts) = omega (arith, coefficients_at_most x f 1 ts)

    coefficients_at_most : (x f i : ℕ) (ts : Trees) → coefficients c x f i ts ≤ values c (λ y. 1) f i ts
    coefficients_at_most x f i nil = omega arith
    coefficients_at_most x f i (cons t ts) =
        let first = mul_le_right (c f i) (coefficient c x t) (value c (λ y. 1) t) (coefficient_at_most x t) in
        omega (arith, first, coefficients_at_most x f (suc i) ts)

module _ (c : ℕ → ℕ → ℕ) (t : Tree) (n : ℕ) where
  pub not_big : n ≡ min (value c (λ x. 1) t) (2 ^ 64 - 1) → n ≤ 2 ^ 63 - 1 → IsBig c t → ⊥
  not_big is small (inl big) = omega (arith, is, small, big, constant_at_most c t)
  not_big is small (inr (x, big)) = omega (arith, is, small, big, coefficient_at_most c x t)

  pub big_constant : n ≡ min (value c (λ x. 0) t) (2 ^ 64 - 1) → 2 ^ 63 ≤ n → IsBig c t
  big_constant is big = inl (omega (arith, is, big, value_at_none c t))

  -- where the constant is not big, a coefficient has to be
  pub big_if : n ≡ min (value c (λ x. 0) t) (2 ^ 64 - 1) → n ≤ 2 ^ 63 - 1 → (b : Bool)
      → (IsTrue b ↔ ((x : ℕ) × (2 ^ 63 ≤ coefficient c x t))) → IsTrue b ↔ IsBig c t
  big_if is small b variable = (
    λ yes. inr (variable.0 yes),
    λ big. elim big [ inl constant ↦ absurd (omega (arith, is, small, constant, value_at_none c t)) | inr some ↦ variable.1 some ],
  )
