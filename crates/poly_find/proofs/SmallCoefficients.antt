-- Small terms have no big coefficient where the coefficients of their symbols are at most 2.
use Rattle.std.specs.Prelude.{◌≡◌, ◌<◌, ◌≤◌, ℕ, ◌*◌, ◌^◌, Bool, true, false, ◌||◌, ◌==◌, if◌then◌else◌, nat_lt}
use Rattle.std.proofs.Common.{suc, inl, inr, sym, arith, ◌∙◌}
use Rattle.trs_defs.specs.Tree.{Tree, Trees, var, app, nil, cons}
use Rattle.trs_defs.specs.System.{RewriteRule}
use Rattle.pair_theory.specs.Subterm.{Sub, itself, under, Subs, in_head, in_tail}
use Rattle.order_theory.specs.LinearInterpretation.{constant, constants, coefficient, coefficients}
use Rattle.order_theory.proofs.Coefficients.{mul_le}
use Rattle.poly_lin.specs.TooBig.{HasBigCoefficient}
use Rattle.assign_search.proofs.Refuting.{or_left, or_right}
use Rattle.order_search.proofs.Lawful.{both_true}
use Rattle.order_search.specs.OrderSpace.{occurs_in}
use Rattle.order_search.proofs.Agreeing.{Agree, AgreeAll, root_agrees, args_agree, first_agrees, rest_agree}
use Rattle.order_search.proofs.Tests.{lt_is}
use Rattle.poly_find.specs.SmallTerms.{greatest, greatest_of, has_small_sides, IsSafe}

one_at_most : (b : Bool) → (if b then 1 else 0) ≤ 1
one_at_most true = omega arith
one_at_most false = omega arith

module _ (c : ℕ → ℕ → ℕ) where
  abbrev AtMostTwo : ℕ → Type 0
  AtMostTwo f = (i : ℕ) → c f i ≤ 2

  mutual
    constant_small : (t : Tree) → Agree AtMostTwo t → constant c t ≤ greatest t
    constant_small (var x) low = omega arith
    constant_small (app f ts) low =
        let own = root_agrees AtMostTwo f ts low 0 in
        let rest = constants_small f 1 ts (root_agrees AtMostTwo f ts low) (args_agree AtMostTwo f ts low) in
        omega (arith, own, rest)

    constants_small : (f i : ℕ) (ts : Trees) → AtMostTwo f → AgreeAll AtMostTwo ts → constants c f i ts ≤ 2 * greatest_of ts
    constants_small f i nil own low = omega arith
    constants_small f i (cons t ts) own low =
        let first = constant_small t (first_agrees AtMostTwo t ts low) in
        let times = mul_le (c f i) 2 (constant c t) (own i) in
        let rest = constants_small f (suc i) ts own (rest_agree AtMostTwo t ts low) in
        omega (arith, first, times, rest)

  mutual
    coefficient_small : (x : ℕ) (t : Tree) → Agree AtMostTwo t → coefficient c x t ≤ greatest t
    coefficient_small x (var y) low = one_at_most (y == x)
    coefficient_small x (app f ts) low =
        let rest = coefficients_small x f 1 ts (root_agrees AtMostTwo f ts low) (args_agree AtMostTwo f ts low) in
        omega (arith, rest)

    coefficients_small : (x f i : ℕ) (ts : Trees) → AtMostTwo f → AgreeAll AtMostTwo ts → coefficients c x f i ts ≤ 2 * greatest_of ts
    coefficients_small x f i nil own low = omega arith
    coefficients_small x f i (cons t ts) own low =
        let first = coefficient_small x t (first_agrees AtMostTwo t ts low) in
        let times = mul_le (c f i) 2 (coefficient c x t) (own i) in
        let rest = coefficients_small x f (suc i) ts own (rest_agree AtMostTwo t ts low) in
        omega (arith, first, times, rest)

  mutual
    of_subterm : {u t : Tree} → Sub u t → Agree AtMostTwo t → Agree AtMostTwo u × (greatest u ≤ greatest t)
    of_subterm itself low = (low, omega arith)
    of_subterm (under {f} {ts} p) low = let rest = of_subterms p (args_agree AtMostTwo f ts low) in (rest.0, omega (arith, rest.1))

    of_subterms : {u : Tree} {ts : Trees} → Subs u ts → AgreeAll AtMostTwo ts → Agree AtMostTwo u × (greatest u ≤ greatest_of ts)
    of_subterms (in_head {t} {ts} p) low = let here = of_subterm p (first_agrees AtMostTwo t ts low) in (here.0, omega (arith, here.1))
    of_subterms (in_tail {t} {ts} p) low = let rest = of_subterms p (rest_agree AtMostTwo t ts low) in (rest.0, omega (arith, rest.1))

  none_big : (t : Tree) → Agree AtMostTwo t → greatest t < 2 ^ 63 → HasBigCoefficient c t → ⊥
  none_big t low small (u, p, big) =
      let h = of_subterm p low in
      elim big [
        | inl le ↦ (let bound = constant_small u h.0 in omega (arith, le, bound, h.1, small))
        | inr k ↦ (let (x, le) = k in let bound = coefficient_small x u h.0 in omega (arith, le, bound, h.1, small))
      ]

  -- where the coefficients of the symbols of both sides are at most 2, a small rule has no big one
  pub safe : (r : RewriteRule) → ((f : ℕ) → occurs_in f r.left || occurs_in f r.right ≡ true → (i : ℕ) → c f i ≤ 2) → (small : Bool) → small ≡ has_small_sides r → IsSafe c small r
  safe r low small is set big =
      let both = both_true (nat_lt (greatest r.left) (2 ^ 63)) (nat_lt (greatest r.right) (2 ^ 63)) (sym is ∙ set) in
      elim big [
        | inl left ↦ none_big r.left (λ f i. low f (or_left (occurs_in f r.left) (occurs_in f r.right) i)) (lt_is (greatest r.left) (2 ^ 63) both.0) left
        | inr right ↦ none_big r.right (λ f i. low f (or_right (occurs_in f r.left) (occurs_in f r.right) i)) (lt_is (greatest r.right) (2 ^ 63) both.1) right
      ]
