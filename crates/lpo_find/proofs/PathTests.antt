-- The tests decide the comparisons of path orders on filtered terms.
use Rattle.std.specs.Prelude.{ℕ, Bool, true, ◌≡◌, ◌↔◌, IsTrue}
use Rattle.std.proofs.Common.{subst, inl, inr}
use Rattle.trs_defs.specs.Tree.{Tree}
use Rattle.order_theory.specs.PathTest.{same_tree}
use Rattle.order_theory.specs.ArgumentFilter.{ArgumentFilter, filtered, PathWeak, PathStrict}
use Rattle.order_theory.proofs.PathDecides.{same_is, same_self, path_decides}
use Rattle.assign_search.proofs.Refuting.{or_left, or_right}
use Rattle.lpo_find.specs.LpoSpace.{path_weak, path_strict}
use Rattle.order_search.proofs.Tests.{either, same_both}

module _ (rank : ℕ → ℕ) (filter : ℕ → ArgumentFilter) (s t : Tree) where
  pub strict_is : path_strict rank filter s t ≡ true → PathStrict rank filter s t
  strict_is e = (path_decides rank (filtered filter s) (filtered filter t)).0 e

  pub is_strict : PathStrict rank filter s t → path_strict rank filter s t ≡ true
  is_strict h = (path_decides rank (filtered filter s) (filtered filter t)).1 h

  pub weak_is : path_weak rank filter s t ≡ true → PathWeak rank filter s t
  weak_is e = elim (either (same_tree (filtered filter s) (filtered filter t)) (path_strict rank filter s t) e) [
    | inl same ↦ inl (same_is (filtered filter s) (filtered filter t) same)
    | inr more ↦ inr (strict_is more)
  ]

  is_weak : PathWeak rank filter s t → path_weak rank filter s t ≡ true
  is_weak h = elim h [
    | inl same ↦ or_left (same_tree (filtered filter s) (filtered filter t)) (path_strict rank filter s t)
        (subst (λ u. same_tree (filtered filter s) u ≡ true) same (same_self (filtered filter s)))
    | inr more ↦ or_right (same_tree (filtered filter s) (filtered filter t)) (path_strict rank filter s t) (is_strict more)
  ]

  pub weak_answer : (b : Bool) → (IsTrue b ↔ PathWeak rank filter s t) → b ≡ path_weak rank filter s t
  weak_answer b tells = same_both b (path_weak rank filter s t) (λ e. is_weak (tells.0 e)) (λ e. tells.1 (weak_is e))

  pub strict_answer : (b : Bool) → (IsTrue b ↔ PathStrict rank filter s t) → b ≡ path_strict rank filter s t
  strict_answer b tells = same_both b (path_strict rank filter s t) (λ e. is_strict (tells.0 e)) (λ e. tells.1 (strict_is e))
