-- What the occurrences of variables and the weights of two terms tell of a comparison.
use Rattle.std.specs.Prelude.{◌≡◌, ◌≢◌, ◌≤◌, ◌<◌, ◌-◌, ◌^◌, ◌⊎◌, ℕ, min, true, false, nat_lt}
use Rattle.std.proofs.Common.{subst, inl, inr, arith}
use Rattle.trs_defs.specs.Tree.{Tree}
use Rattle.order_theory.specs.KnuthBendix.{weigh, KeepsOccurrences, KnuthGreater, KnuthWeak, by_weight}
use Rattle.kbo_order.specs.TooBig.{EitherIsBig}
use Rattle.kbo_order.proofs.Knuth.{seen_of}
use Rattle.kbo_order.proofs.Viewers.{not_big, either_big}
use Rattle.order_search.proofs.Tests.{same_both, never_true, lt_is, is_lt}
use Rattle.kbo_find.specs.KnuthTest.{knuth_weak, knuth_strict}
use Rattle.kbo_find.proofs.KnuthDecides.{weak_is, strict_is, is_weak, is_strict}
use Rattle.kbo_find.proofs.KboTests.{weak_too_big, strict_too_big}

module _ (w r : ℕ → ℕ) (s t : Tree) where
  greater_keeps : KnuthGreater w r s t → KeepsOccurrences s t
  greater_keeps g v = (seen_of w r v g).0

  greater_weighs : KnuthGreater w r s t → weigh w t ≤ weigh w s
  greater_weighs g = elim (seen_of w r 0 g).1 [ inl less ↦ omega (arith, less) | inr same ↦ omega (arith, same.0) ]

  weak_keeps : KnuthWeak w r s t → KeepsOccurrences s t
  weak_keeps h = elim h [ inl same ↦ subst (λ (u : Tree). KeepsOccurrences s u) same (λ v. omega arith) | inr g ↦ greater_keeps g ]

  weak_weighs : KnuthWeak w r s t → weigh w t ≤ weigh w s
  weak_weighs h = elim h [ inl same ↦ subst (λ (u : Tree). weigh w u ≤ weigh w s) same (omega arith) | inr g ↦ greater_weighs g ]

  -- a variable occurs less often in the first term
  pub unkept_strict : (KeepsOccurrences s t → ⊥) → false ≡ knuth_strict w r s t
  unkept_strict lacks = never_true (knuth_strict w r s t) (λ e. lacks (greater_keeps (strict_is w r s t e)))

  pub unkept_weak : (KeepsOccurrences s t → ⊥) → false ≡ knuth_weak w r s t
  unkept_weak lacks = never_true (knuth_weak w r s t) (λ e. lacks (weak_keeps (weak_is w r s t e)))

  -- two numbers are the weights, as far as 64 bits tell
  module _ (a b : ℕ) (left : a ≡ min (weigh w s) (2 ^ 64 - 1)) (right : b ≡ min (weigh w t) (2 ^ 64 - 1)) where
    big : (2 ^ 63 ≤ a) ⊎ (2 ^ 63 ≤ b) → EitherIsBig w s t
    big h = either_big w s t (elim h [ inl p ↦ inl (omega (arith, p, left)) | inr p ↦ inr (omega (arith, p, right)) ])

    pub big_strict : (2 ^ 63 ≤ a) ⊎ (2 ^ 63 ≤ b) → false ≡ knuth_strict w r s t
    big_strict h = strict_too_big w r s t (big h)

    pub big_weak : (2 ^ 63 ≤ a) ⊎ (2 ^ 63 ≤ b) → false ≡ knuth_weak w r s t
    big_weak h = weak_too_big w r s t (big h)

    module _ (small_left : a < 2 ^ 63) (small_right : b < 2 ^ 63) (differ : a ≢ b) (keeps : KeepsOccurrences s t) where
      light_left : weigh w s < 2 ^ 63
      light_left = omega (arith, small_left, left)

      light_right : weigh w t < 2 ^ 63
      light_right = omega (arith, small_right, right)

      none_big : EitherIsBig w s t → ⊥
      none_big h = elim h [ inl p ↦ not_big w s light_left p | inr p ↦ not_big w t light_right p ]

      heavier : nat_lt b a ≡ true → KnuthGreater w r s t
      heavier e = let less = lt_is b a e in by_weight keeps (omega (arith, less, left, right, small_left, small_right))

      less_of : weigh w t ≤ weigh w s → nat_lt b a ≡ true
      less_of le = is_lt b a (omega (arith, le, left, right, light_left, light_right, differ))

      pub told_strict : nat_lt b a ≡ knuth_strict w r s t
      told_strict = same_both (nat_lt b a) (knuth_strict w r s t) (λ e. is_strict w r s t none_big (heavier e)) (λ e. less_of (greater_weighs (strict_is w r s t e)))

      pub told_weak : nat_lt b a ≡ knuth_weak w r s t
      told_weak = same_both (nat_lt b a) (knuth_weak w r s t) (λ e. is_weak w r s t none_big (inr (heavier e))) (λ e. less_of (weak_weighs (weak_is w r s t e)))
