-- What a comparison by linear polynomials answers as a test.
use Rattle.std.specs.Prelude.{ℕ, Bool, true, false, not, ◌↔◌, ◌≡◌, IsTrue}
use Rattle.std.proofs.Common.{refl, sym, ◌∙◌}
use Rattle.trs_defs.specs.Tree.{Tree}
use Rattle.order_theory.specs.LinearInterpretation.{LinearWeak, LinearStrict}
use Rattle.poly_lin.specs.TooBig.{EitherIsBig}
use Rattle.poly_find.specs.LinearTest.{linear_strict, linear_weak}
use Rattle.poly_find.proofs.LinearDecides.{weak_fits, weak_is, strict_fits, strict_is, is_weak, is_strict}
use Rattle.order_search.proofs.Tests.{same_both, never_true}

module _ (c : ℕ → ℕ → ℕ) (s t : Tree) where
  pub weak_answer : (b : Bool) → (EitherIsBig c s t → ⊥) × (IsTrue b ↔ LinearWeak c s t) → b ≡ linear_weak c s t
  weak_answer b h = same_both b (linear_weak c s t) (λ e. is_weak c s t h.0 (h.1.0 e)) (λ e. h.1.1 (weak_is c s t e))

  pub weak_too_big : EitherIsBig c s t → false ≡ linear_weak c s t
  weak_too_big big = never_true (linear_weak c s t) (λ e. weak_fits c s t e big)

  module _ (b : Bool) (above : (EitherIsBig c s t → ⊥) → (IsTrue b ↔ LinearWeak c s t)) where
    pub weak_missing : b ≡ false → false ≡ linear_weak c s t
    weak_missing no_ = never_true (linear_weak c s t) (λ e. let set = (above (weak_fits c s t e)).1 (weak_is c s t e) in absurd cc)

    pub weak_fitting : (EitherIsBig c s t → ⊥) → b ≡ true → true ≡ linear_weak c s t
    weak_fitting fits set = sym set ∙ weak_answer b (fits, above fits)

    pub weak_unless_big : (big : Bool) → (IsTrue big ↔ EitherIsBig c s t) → b ≡ true → not big ≡ linear_weak c s t
    weak_unless_big true is set = weak_too_big (is.0 refl)
    weak_unless_big false is set = weak_fitting (λ yes. let never = is.1 yes in absurd cc) set

  pub strict_answer : (b : Bool) → (EitherIsBig c s t → ⊥) × (IsTrue b ↔ LinearStrict c s t) → b ≡ linear_strict c s t
  strict_answer b h = same_both b (linear_strict c s t) (λ e. is_strict c s t h.0 (h.1.0 e)) (λ e. h.1.1 (strict_is c s t e))

  pub strict_too_big : EitherIsBig c s t → false ≡ linear_strict c s t
  strict_too_big big = never_true (linear_strict c s t) (λ e. strict_fits c s t e big)

  module _ (b : Bool) (above : (EitherIsBig c s t → ⊥) → (IsTrue b ↔ LinearStrict c s t)) where
    pub strict_missing : b ≡ false → false ≡ linear_strict c s t
    strict_missing no_ = never_true (linear_strict c s t) (λ e. let set = (above (strict_fits c s t e)).1 (strict_is c s t e) in absurd cc)

    pub strict_fitting : (EitherIsBig c s t → ⊥) → b ≡ true → true ≡ linear_strict c s t
    strict_fitting fits set = sym set ∙ strict_answer b (fits, above fits)

    pub strict_unless_big : (big : Bool) → (IsTrue big ↔ EitherIsBig c s t) → b ≡ true → not big ≡ linear_strict c s t
    strict_unless_big true is set = strict_too_big (is.0 refl)
    strict_unless_big false is set = strict_fitting (λ yes. let never = is.1 yes in absurd cc) set
