-- A variable that does not occur has no coefficient, so that comparing those of the variables that occur is enough.
use Rattle.std.proofs.Common.{◌≡◌, ℕ, ◌*◌, suc, refl, arith, false, ◌==◌}
use Rattle.std.proofs.lemmas.Bool.{or_parts}
use Rattle.trs_defs.specs.Tree.{Tree, Trees, var, app, nil, cons}
use Rattle.trs_defs.specs.Variable.{has_var, some_has_var}
use Rattle.order_theory.specs.LinearInterpretation.{coefficient, coefficients}
use Rattle.order_theory.proofs.Coefficients.{one_if_false}

times_zero : (k n : ℕ) → n ≡ 0 → k * n ≡ 0
times_zero k n e = grind arith

module _ (c : ℕ → ℕ → ℕ) (x : ℕ) where
  mutual
    pub coefficient_absent : (t : Tree) → has_var x t ≡ false → coefficient c x t ≡ 0
    coefficient_absent (var y) e = one_if_false (y == x) e
    coefficient_absent (app f ts) e = coefficients_absent f 1 ts e

    coefficients_absent : (f i : ℕ) (ts : Trees) → some_has_var x ts ≡ false → coefficients c x f i ts ≡ 0
    coefficients_absent f i nil e = refl
    coefficients_absent f i (cons t ts) e =
        let both : (has_var x t ≡ false) × (some_has_var x ts ≡ false) = or_parts (has_var x t) (some_has_var x ts) e in
        let h : c f i * coefficient c x t ≡ 0 = times_zero (c f i) (coefficient c x t) (coefficient_absent t both.0) in
        let k : coefficients c x f (suc i) ts ≡ 0 = coefficients_absent f (suc i) ts both.1 in omega arith
