-- The tests decide the comparisons of linear polynomials.
use Rattle.std.specs.Prelude.{◌≡◌, ℕ, ◌≤◌, ◌<◌, ◌^◌, ◌⊎◌, Bool, true, false, ◌&&◌, ◌==◌, if◌then◌else◌, nat_lt, nat_le}
use Rattle.std.proofs.Common.{refl, subst, inl, inr, arith}
use Rattle.std.proofs.lemmas.Bool.Decides.{nat_tests}
use Rattle.trs_defs.specs.Tree.{Tree, Trees, var, app, nil, cons}
use Rattle.trs_defs.specs.Variable.{has_var, some_has_var}
use Rattle.pair_theory.specs.Subterm.{Sub, itself, under, Subs, in_head, in_tail}
use Rattle.order_theory.specs.LinearInterpretation.{constant, coefficient, LinearWeak, LinearStrict}
use Rattle.order_theory.proofs.Absent.{coefficient_absent}
use Rattle.order_theory.proofs.Coefficients.{weak_by_coefficients, strict_by_coefficients, coefficients_of_weak, coefficients_of_strict}
use Rattle.poly_lin.specs.TooBig.{HasBigCoefficient, EitherIsBig}
use Rattle.assign_search.proofs.Refuting.{true_or_false}
use Rattle.order_search.proofs.Lawful.{both_true, and_true}
use Rattle.order_search.proofs.Tests.{same_number, either, le_is, is_le, lt_is, is_lt}
use Rattle.poly_find.specs.LinearTest.{has_small, have_small, is_small, are_small, covers_each, covers_all, linear_weak, linear_strict}

below : (n : ℕ) → (2 ^ 63 ≤ n → ⊥) → nat_lt n (2 ^ 63) ≡ true
below n no_ = elim (true_or_false (nat_lt n (2 ^ 63))) [ inl less ↦ less | inr not_less ↦ absurd (no_ (grind (arith, nat_tests))) ]

module _ (c : ℕ → ℕ → ℕ) where
  -- ---- big coefficients

  module _ (t : Tree) where
    mutual
      small_there : (x : ℕ) (u : Tree) → has_small c t u ≡ true → has_var x u ≡ true → coefficient c x t < 2 ^ 63
      small_there x (var y) e here = let same : y ≡ x = same_number y x here in subst (λ z. coefficient c z t < 2 ^ 63) same (lt_is (coefficient c y t) (2 ^ 63) e)
      small_there x (app f us) e here = small_in x us e here

      small_in : (x : ℕ) (us : Trees) → have_small c t us ≡ true → some_has_var x us ≡ true → coefficient c x t < 2 ^ 63
      small_in x nil e here = absurd cc
      small_in x (cons u us) e here =
          let both = both_true (has_small c t u) (have_small c t us) e in
          elim (either (has_var x u) (some_has_var x us) here) [ inl first ↦ small_there x u both.0 first | inr later ↦ small_in x us both.1 later ]

    small_each : has_small c t t ≡ true → (x : ℕ) → coefficient c x t < 2 ^ 63
    small_each e x = elim (true_or_false (has_var x t)) [
      | inl here ↦ small_there x t e here
      | inr missing ↦ let none = coefficient_absent c x t missing in omega (arith, none)
    ]

    module _ (none : (x : ℕ) → 2 ^ 63 ≤ coefficient c x t → ⊥) where
      mutual
        each_small : (u : Tree) → has_small c t u ≡ true
        each_small (var x) = below (coefficient c x t) (none x)
        each_small (app f us) = all_small us

        all_small : (us : Trees) → have_small c t us ≡ true
        all_small nil = refl
        all_small (cons u us) = and_true (has_small c t u) (have_small c t us) (each_small u) (all_small us)

  one_at_most : (b : Bool) → (if b then 1 else 0) < 2 ^ 63
  one_at_most true = omega arith
  one_at_most false = omega arith

  small_here : (t : Tree) → is_small c t ≡ true → (2 ^ 63 ≤ constant c t) ⊎ ((x : ℕ) × (2 ^ 63 ≤ coefficient c x t)) → ⊥
  small_here (var y) e (inl big) = omega arith
  small_here (var y) e (inr (x, big)) = let small = one_at_most (y == x) in omega (arith, big, small)
  small_here (app f ts) e big =
      let both = both_true (nat_lt (constant c (app f ts)) (2 ^ 63)) (has_small c (app f ts) (app f ts) && are_small c ts) e in
      let rest = both_true (has_small c (app f ts) (app f ts)) (are_small c ts) both.1 in
      elim big [
        | inl le ↦ (let small = lt_is (constant c (app f ts)) (2 ^ 63) both.0 in omega (arith, le, small))
        | inr h ↦ (let (x, le) = h in let small = small_each (app f ts) rest.0 x in omega (arith, le, small))
      ]

  mutual
    small_sub : {u t : Tree} → Sub u t → is_small c t ≡ true → is_small c u ≡ true
    small_sub itself e = e
    small_sub (under {f} {ts} p) e =
        let both = both_true (nat_lt (constant c (app f ts)) (2 ^ 63)) (has_small c (app f ts) (app f ts) && are_small c ts) e in
        small_subs p (both_true (has_small c (app f ts) (app f ts)) (are_small c ts) both.1).1

    small_subs : {u : Tree} {ts : Trees} → Subs u ts → are_small c ts ≡ true → is_small c u ≡ true
    small_subs (in_head {t} {ts} p) e = small_sub p (both_true (is_small c t) (are_small c ts) e).0
    small_subs (in_tail {t} {ts} p) e = small_subs p (both_true (is_small c t) (are_small c ts) e).1

  not_big : (t : Tree) → is_small c t ≡ true → HasBigCoefficient c t → ⊥
  not_big t e (u, p, big) = small_here u (small_sub p e) big

  mutual
    is_not_big : (t : Tree) → (HasBigCoefficient c t → ⊥) → is_small c t ≡ true
    is_not_big (var x) no_ = refl
    is_not_big (app f ts) no_ =
        and_true (nat_lt (constant c (app f ts)) (2 ^ 63)) (has_small c (app f ts) (app f ts) && are_small c ts)
        (below (constant c (app f ts)) (λ le. no_ (app f ts, itself, inl le)))
        (and_true (has_small c (app f ts) (app f ts)) (are_small c ts) (each_small (app f ts) (λ x le. no_ (app f ts, itself, inr (x, le))) (app f ts))
        (are_not_big ts (λ u p big. no_ (u, under p, big))))

    are_not_big : (ts : Trees) → ((u : Tree) → Subs u ts → (2 ^ 63 ≤ constant c u) ⊎ ((x : ℕ) × (2 ^ 63 ≤ coefficient c x u)) → ⊥) → are_small c ts ≡ true
    are_not_big nil no_ = refl
    are_not_big (cons t ts) no_ =
        and_true (is_small c t) (are_small c ts) (is_not_big t (λ (u, p, big). no_ u (in_head p) big)) (are_not_big ts (λ u p big. no_ u (in_tail p) big))

  -- ---- coefficients of variables

  module _ (s t : Tree) where
    mutual
      covers_there : (x : ℕ) (u : Tree) → covers_each c s t u ≡ true → has_var x u ≡ true → coefficient c x t ≤ coefficient c x s
      covers_there x (var y) e here =
          let same : y ≡ x = same_number y x here in subst (λ z. coefficient c z t ≤ coefficient c z s) same (le_is (coefficient c y t) (coefficient c y s) e)
      covers_there x (app f us) e here = covers_in x us e here

      covers_in : (x : ℕ) (us : Trees) → covers_all c s t us ≡ true → some_has_var x us ≡ true → coefficient c x t ≤ coefficient c x s
      covers_in x nil e here = absurd cc
      covers_in x (cons u us) e here =
          let both = both_true (covers_each c s t u) (covers_all c s t us) e in
          elim (either (has_var x u) (some_has_var x us) here) [ inl first ↦ covers_there x u both.0 first | inr later ↦ covers_in x us both.1 later ]

    covered_each : covers_each c s t t ≡ true → (x : ℕ) → coefficient c x t ≤ coefficient c x s
    covered_each e x = elim (true_or_false (has_var x t)) [
      | inl here ↦ covers_there x t e here
      | inr missing ↦ let none = coefficient_absent c x t missing in omega (arith, none)
    ]

    module _ (each : (x : ℕ) → coefficient c x t ≤ coefficient c x s) where
      mutual
        is_covered : (u : Tree) → covers_each c s t u ≡ true
        is_covered (var x) = is_le (coefficient c x t) (coefficient c x s) (each x)
        is_covered (app f us) = are_covered us

        are_covered : (us : Trees) → covers_all c s t us ≡ true
        are_covered nil = refl
        are_covered (cons u us) = and_true (covers_each c s t u) (covers_all c s t us) (is_covered u) (are_covered us)

    -- ---- both comparisons

    fit_is : is_small c s && is_small c t ≡ true → EitherIsBig c s t → ⊥
    fit_is e big = let both = both_true (is_small c s) (is_small c t) e in elim big [ inl left ↦ not_big s both.0 left | inr right ↦ not_big t both.1 right ]

    is_fit : (EitherIsBig c s t → ⊥) → is_small c s && is_small c t ≡ true
    is_fit no_ = and_true (is_small c s) (is_small c t) (is_not_big s (λ big. no_ (inl big))) (is_not_big t (λ big. no_ (inr big)))

    pub weak_fits : linear_weak c s t ≡ true → EitherIsBig c s t → ⊥
    weak_fits e = fit_is (both_true (is_small c s && is_small c t) (nat_le (constant c t) (constant c s) && covers_each c s t t) e).0

    pub strict_fits : linear_strict c s t ≡ true → EitherIsBig c s t → ⊥
    strict_fits e = fit_is (both_true (is_small c s && is_small c t) (nat_lt (constant c t) (constant c s) && covers_each c s t t) e).0

    pub weak_is : linear_weak c s t ≡ true → LinearWeak c s t
    weak_is e =
        let both = both_true (is_small c s && is_small c t) (nat_le (constant c t) (constant c s) && covers_each c s t t) e in
        let rest = both_true (nat_le (constant c t) (constant c s)) (covers_each c s t t) both.1 in
        weak_by_coefficients c s t (le_is (constant c t) (constant c s) rest.0, covered_each rest.1)

    pub strict_is : linear_strict c s t ≡ true → LinearStrict c s t
    strict_is e =
        let both = both_true (is_small c s && is_small c t) (nat_lt (constant c t) (constant c s) && covers_each c s t t) e in
        let rest = both_true (nat_lt (constant c t) (constant c s)) (covers_each c s t t) both.1 in
        strict_by_coefficients c s t (lt_is (constant c t) (constant c s) rest.0, covered_each rest.1)

    pub is_weak : (EitherIsBig c s t → ⊥) → LinearWeak c s t → linear_weak c s t ≡ true
    is_weak no_ h =
        let by = coefficients_of_weak c s t h in
        and_true (is_small c s && is_small c t) (nat_le (constant c t) (constant c s) && covers_each c s t t) (is_fit no_)
        (and_true (nat_le (constant c t) (constant c s)) (covers_each c s t t) (is_le (constant c t) (constant c s) by.0) (is_covered by.1 t))

    pub is_strict : (EitherIsBig c s t → ⊥) → LinearStrict c s t → linear_strict c s t ≡ true
    is_strict no_ h =
        let by = coefficients_of_strict c s t h in
        and_true (is_small c s && is_small c t) (nat_lt (constant c t) (constant c s) && covers_each c s t t) (is_fit no_)
        (and_true (nat_lt (constant c t) (constant c s)) (covers_each c s t t) (is_lt (constant c t) (constant c s) by.0) (is_covered by.1 t))
