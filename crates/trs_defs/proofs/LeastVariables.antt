-- The least variable from a number on: none before it is in the term.
use Rattle.std.proofs.Common.{◌≡◌, ℕ, ◌≤◌, ◌<◌, inl, inr, refl, sym, subst, ◌∙◌, arith, Option, Some, None, true, false, Bool, cond, IsTrue, nat_le, nat_lt}
use Rattle.std.proofs.lemmas.Bool.Decides.{nat_tests}
use Rattle.trs_defs.specs.Tree.{Tree, Trees, var, app, nil, cons}
use Rattle.trs_defs.specs.LeastVariable.{is_less, better, least_variable, least_of_all, IsBelow, IsFrom}
use Rattle.trs_defs.specs.Variable.{has_var, some_has_var, occurrences}
use Rattle.trs_defs.proofs.VariableLaws.{has_var_same, has_var_cons}
use Rattle.trs_defs.proofs.OccurrenceLaws.{no_variable}

module _ (from : ℕ) where
  better_skips : (best : Option ℕ) (x y : ℕ) → from ≤ y → IsBelow y (better from best x) → IsBelow y best × (x ≡ y → ⊥)
  better_skips None x y h below = go (nat_le from x) refl below
    where
      go : (b : Bool) → nat_le from x ≡ b → IsBelow y (cond b (Some x) None) → Unit {0} × (x ≡ y → ⊥)
      go true e below = (tt, λ same. absurd (omega arith))
      go false e below = (tt, λ same. absurd (grind (arith, nat_tests)))
  better_skips (Some z) x y h below = go (nat_le from x) (nat_lt x z) refl refl below
    where
      go : (b c : Bool) → nat_le from x ≡ b → nat_lt x z ≡ c → IsBelow y (cond b (cond c (Some x) (Some z)) (Some z)) → (y < z) × (x ≡ y → ⊥)
      go true true e k below = (grind (arith, nat_tests), λ same. absurd (omega arith))
      go true false e k below = (below, λ same. absurd (grind (arith, nat_tests)))
      go false c e k below = (below, λ same. absurd (grind (arith, nat_tests)))

  better_from : (best : Option ℕ) (x : ℕ) → IsFrom from best → IsFrom from (better from best x)
  better_from best x h = go (nat_le from x) (is_less x best) refl
    where
      go : (b c : Bool) → nat_le from x ≡ b → IsFrom from (cond b (cond c (Some x) best) best)
      go true true e = grind (arith, nat_tests)
      go true false e = h
      go false c e = h

  mutual
    -- no variable from the number on and below the least found is in the term
    pub least_skips : (t : Tree) (best : Option ℕ) (y : ℕ) → from ≤ y → IsBelow y (least_variable from best t) → IsBelow y best × (IsTrue (has_var y t) → ⊥)
    least_skips (var x) best y h below =
        let skipped = better_skips best x y h below in (skipped.0, λ is. skipped.1 (has_var_same y x is))
    least_skips (app f ts) best y h below = all_skip ts best y h below

    all_skip : (ts : Trees) (best : Option ℕ) (y : ℕ) → from ≤ y → IsBelow y (least_of_all from best ts) → IsBelow y best × (IsTrue (some_has_var y ts) → ⊥)
    all_skip nil best y h below = (below, λ is. absurd cc)
    all_skip (cons t ts) best y h below =
        let rest = all_skip ts (least_variable from best t) y h below in
        let first = least_skips t best y h rest.0 in
        (first.0, λ is. elim (has_var_cons y t ts is) [ inl k ↦ first.1 k | inr k ↦ rest.1 k ])

  mutual
    pub least_from : (t : Tree) (best : Option ℕ) → IsFrom from best → IsFrom from (least_variable from best t)
    least_from (var x) best h = better_from best x h
    least_from (app f ts) best h = all_from ts best h

    all_from : (ts : Trees) (best : Option ℕ) → IsFrom from best → IsFrom from (least_of_all from best ts)
    all_from nil best h = h
    all_from (cons t ts) best h = all_from ts (least_variable from best t) (least_from t best h)

module _ (from : ℕ) (t : Tree) (o : Option ℕ) (found : o ≡ least_variable from None t) where
  pub least_is_from : (x : ℕ) → o ≡ Some x → from ≤ x
  least_is_from x is = subst (IsFrom from) (sym found ∙ is) (least_from from t None tt)

  -- no variable from the number on and below the least found occurs
  pub none_below_least : (y : ℕ) → from ≤ y → IsBelow y o → occurrences y t ≡ 0
  none_below_least y le below = no_variable y t (least_skips from t None y le (subst (IsBelow y) found below)).1
