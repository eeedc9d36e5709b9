-- Where no coefficient is big, coefficients as far as 64 bits tell decide the order.
use Rattle.std.proofs.Common.{◌≡◌, ℕ, ◌-◌, ◌≤◌, ◌<◌, ◌^◌, ◌↔◌, min, inl, inr, arith, false, Bool, IsTrue}
use Rattle.std.proofs.lemmas.Bool.{cases_lt}
use Rattle.trs_defs.specs.Tree.{Tree}
use Rattle.pair_theory.specs.Subterm.{itself}
use Rattle.order_theory.specs.LinearInterpretation.{value, constant, coefficient, LinearWeak, LinearStrict}
use Rattle.order_theory.proofs.Coefficients.{weak_by_coefficients, strict_by_coefficients, coefficients_of_weak, coefficients_of_strict}
use Rattle.poly_lin.specs.Covering.{Covers}
use Rattle.poly_lin.specs.TooBig.{HasBigCoefficient, EitherIsBig}
use Rattle.poly_lin.proofs.ValueLaws.{value_at_none}

module _ (c : ℕ → ℕ → ℕ) where
  module _ (u : Tree) (none_big : HasBigCoefficient c u → ⊥) where
    small_constant : constant c u < 2 ^ 63
    small_constant = elim (cases_lt (constant c u) (2 ^ 63)) [ inl less ↦ less | inr big ↦ absurd (none_big (u, itself, inl big)) ]

    small_coefficient : (x : ℕ) → coefficient c x u < 2 ^ 63
    small_coefficient x = elim (cases_lt (coefficient c x u) (2 ^ 63)) [ inl less ↦ less | inr big ↦ absurd (none_big (u, itself, inr (x, big))) ]

  module _ (s t : Tree) (none_big : EitherIsBig c s t → ⊥) where
    small_left : (x : ℕ) → coefficient c x s < 2 ^ 63
    small_left x = small_coefficient s (λ big. none_big (inl big)) x

    small_right : (x : ℕ) → coefficient c x t < 2 ^ 63
    small_right x = small_coefficient t (λ big. none_big (inr big)) x

    covered : Covers c s t → (x : ℕ) → coefficient c x t ≤ coefficient c x s
    covered all x =
        let a = small_left x in
        let b = small_right x in
        let le : min (coefficient c x t) (2 ^ 64 - 1) ≤ min (coefficient c x s) (2 ^ 64 - 1) = all x in
        omega (arith, a, b, le)

    is_covered : ((x : ℕ) → coefficient c x t ≤ coefficient c x s) → Covers c s t
    is_covered all x = let le = all x in omega (arith, le)

    module _ (left right : ℕ) (left_is : left ≡ min (value c (λ x. 0) s) (2 ^ 64 - 1)) (right_is : right ≡ min (value c (λ x. 0) t) (2 ^ 64 - 1)) where
      exact : (left ≡ constant c s) × (right ≡ constant c t)
      exact =
          let a = small_constant s (λ big. none_big (inl big)) in
          let b = small_constant t (λ big. none_big (inr big)) in
          (omega (arith, a, left_is, value_at_none c s), omega (arith, b, right_is, value_at_none c t))

      pub not_weak : (b : Bool) → b ≡ false → left < right → IsTrue b ↔ LinearWeak c s t
      not_weak b is less = (
        λ yes. absurd cc,
        λ above. let by = coefficients_of_weak c s t above in let e = exact in absurd (omega (arith, e.0, e.1, by.0, less)),
      )

      pub weak_if : (b : Bool) → (IsTrue b ↔ Covers c s t) → right ≤ left → IsTrue b ↔ LinearWeak c s t
      weak_if b is le = (
        λ yes. let e = exact in weak_by_coefficients c s t (omega (arith, e.0, e.1, le), covered (is.0 yes)),
        λ above. is.1 (is_covered (coefficients_of_weak c s t above).1),
      )

      pub not_strict : (b : Bool) → b ≡ false → left ≤ right → IsTrue b ↔ LinearStrict c s t
      not_strict b is le = (
        λ yes. absurd cc,
        λ above. let by = coefficients_of_strict c s t above in let e = exact in absurd (omega (arith, e.0, e.1, by.0, le)),
      )

      pub strict_if : (b : Bool) → (IsTrue b ↔ Covers c s t) → right < left → IsTrue b ↔ LinearStrict c s t
      strict_if b is less = (
        λ yes. let e = exact in strict_by_coefficients c s t (omega (arith, e.0, e.1, less), covered (is.0 yes)),
        λ above. is.1 (is_covered (coefficients_of_strict c s t above).1),
      )
