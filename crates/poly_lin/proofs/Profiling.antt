-- What the profile of a term on the left tells of a comparison.
use Rattle.std.proofs.Common.{◌≡◌, ℕ, ◌-◌, ◌≤◌, ◌<◌, ◌^◌, ◌↔◌, min, inl, inr, refl, false, true, Bool, IsTrue, arith}
use Rattle.trs_defs.specs.Tree.{Tree}
use Rattle.order_theory.specs.LinearInterpretation.{value, LinearWeak, LinearStrict}
use Rattle.poly_lin.specs.Covering.{Covers}
use Rattle.poly_lin.specs.TooBig.{HasBigCoefficient, EitherIsBig}
use Rattle.poly_lin.proofs.SmallDeciding.{not_weak, weak_if, not_strict, strict_if}

module _ (c : ℕ → ℕ → ℕ) (s t : Tree) where
  pub neither_big : (a b : Bool) → (IsTrue a ↔ HasBigCoefficient c s) → (IsTrue b ↔ HasBigCoefficient c t) → a ≡ false → b ≡ false → EitherIsBig c s t → ⊥
  neither_big a b h k none_left none_right (inl big) = let yes = h.1 big in absurd (cc (yes, none_left))
  neither_big a b h k none_left none_right (inr big) = let yes = k.1 big in absurd (cc (yes, none_right))

  module _ (none_big : EitherIsBig c s t → ⊥) (left right : ℕ) (left_is : left ≡ min (value c (λ x. 0) s) (2 ^ 64 - 1)) (right_is : right ≡ min (value c (λ x. 0) t) (2 ^ 64 - 1)) where
    pub lower : left < right → LinearWeak c s t → ⊥
    lower less weak = let yes = (not_weak c s t none_big left right left_is right_is false refl less).1 weak in absurd cc

    module _ (b : Bool) (covers : IsTrue b ↔ Covers c s t) where
      pub uncovered : right ≤ left → b ≡ false → LinearWeak c s t → ⊥
      uncovered le is weak = let yes = (weak_if c s t none_big left right left_is right_is b covers le).1 weak in absurd (cc (yes, is))

      pub only_weak : left ≡ right → b ≡ true → LinearWeak c s t × (LinearStrict c s t → ⊥)
      only_weak same is = (
        (weak_if c s t none_big left right left_is right_is b covers (omega (arith, same))).0 is,
        λ strict. let yes = (not_strict c s t none_big left right left_is right_is false refl (omega (arith, same))).1 strict in absurd cc,
      )

      pub even_strict : right < left → b ≡ true → LinearWeak c s t × LinearStrict c s t
      even_strict less is = (
        (weak_if c s t none_big left right left_is right_is b covers (omega (arith, less))).0 is,
        (strict_if c s t none_big left right left_is right_is b covers less).0 is,
      )
