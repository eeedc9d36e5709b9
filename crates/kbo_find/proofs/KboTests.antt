-- What a comparison by a Knuth-Bendix order answers as a test.
use Rattle.std.specs.Prelude.{ℕ, Bool, false, ◌↔◌, ◌≡◌, IsTrue}
use Rattle.trs_defs.specs.Tree.{Tree}
use Rattle.order_theory.specs.KnuthBendix.{KnuthGreater, KnuthWeak}
use Rattle.kbo_order.specs.TooBig.{EitherIsBig}
use Rattle.kbo_find.specs.KnuthTest.{knuth_strict, knuth_weak}
use Rattle.kbo_find.proofs.KnuthDecides.{weak_fits, weak_is, strict_fits, strict_is, is_weak, is_strict}
use Rattle.order_search.proofs.Tests.{same_both, never_true}

module _ (w r : ℕ → ℕ) (s t : Tree) where
  pub weak_answer : (b : Bool) → (EitherIsBig w s t → ⊥) × (IsTrue b ↔ KnuthWeak w r s t) → b ≡ knuth_weak w r s t
  weak_answer b h = same_both b (knuth_weak w r s t) (λ e. is_weak w r s t h.0 (h.1.0 e)) (λ e. h.1.1 (weak_is w r s t e))

  pub weak_too_big : EitherIsBig w s t → false ≡ knuth_weak w r s t
  weak_too_big big = never_true (knuth_weak w r s t) (λ e. weak_fits w r s t e big)

  pub strict_answer : (b : Bool) → (EitherIsBig w s t → ⊥) × (IsTrue b ↔ KnuthGreater w r s t) → b ≡ knuth_strict w r s t
  strict_answer b h = same_both b (knuth_strict w r s t) (λ e. is_strict w r s t h.0 (h.1.0 e)) (λ e. h.1.1 (strict_is w r s t e))

  pub strict_too_big : EitherIsBig w s t → false ≡ knuth_strict w r s t
  strict_too_big big = never_true (knuth_strict w r s t) (λ e. strict_fits w r s t e big)
