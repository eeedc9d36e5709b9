-- The variables of the second term see the two terms, walk by walk.
use Rattle.std.proofs.Common.{◌≡◌, ℕ, ◌+◌, ◌-◌, ◌≤◌, ◌<◌, ◌^◌, ◌⊎◌, ◌↔◌, inl, inr, refl, sym, subst, arith, true, false, Bool, IsTrue, Option, Some, None}
use Rattle.std.proofs.lemmas.Bool.{cases_lt}
use Rattle.trs_defs.specs.Tree.{Tree, Trees}
use Rattle.trs_defs.specs.LeastVariable.{least_variable, IsBelow}
use Rattle.trs_defs.specs.Variable.{occurrences}
use Rattle.trs_defs.proofs.LeastVariables.{none_below_least}
use Rattle.pair_theory.specs.Subterm.{Sub, itself, under, Subs, in_head, in_tail}
use Rattle.order_theory.specs.KnuthBendix.{weigh, weigh_all, KnuthGreater}
use Rattle.kbo_order.specs.Seen.{SeenGreater, View}
use Rattle.kbo_order.specs.TooBig.{HasBigWeight, EitherIsBig}
use Rattle.kbo_order.proofs.Knuth.{seen_of, greater_of, absent}

mutual
  pub weigh_sub : (w : ℕ → ℕ) {u t : Tree} → Sub u t → weigh w u ≤ weigh w t
  weigh_sub w itself = omega arith
  weigh_sub w (under p) = omega (arith, weigh_subs w p)

  weigh_subs : (w : ℕ → ℕ) {u : Tree} {ts : Trees} → Subs u ts → weigh w u ≤ weigh_all w ts
  weigh_subs w (in_head p) = omega (arith, weigh_sub w p)
  weigh_subs w (in_tail p) = omega (arith, weigh_subs w p)

pub big_of : (w : ℕ → ℕ) (t : Tree) → 2 ^ 63 ≤ weigh w t → HasBigWeight w t
big_of w t le = (t, itself, le)

pub not_big : (w : ℕ → ℕ) (t : Tree) → weigh w t < 2 ^ 63 → HasBigWeight w t → ⊥
not_big w t lt (u, p, le) = omega (arith, weigh_sub w p, le, lt)

-- both answers of a walk that fails
pub either_big : (w : ℕ → ℕ) (s t : Tree) → (2 ^ 63 ≤ weigh w s) ⊎ (2 ^ 63 ≤ weigh w t) → EitherIsBig w s t
either_big w s t (inl le) = inl (big_of w s le)
either_big w s t (inr le) = inr (big_of w t le)

module _ (w rank : ℕ → ℕ) (s t : Tree) where
  -- variable 0 and the variables below a number all see that s is greater
  pub record SeenBelow (from : ℕ) : Type 0 where
    pub left_small : weigh w s < 2 ^ 63
    pub right_small : weigh w t < 2 ^ 63
    pub first : SeenGreater w rank 0 s t
    pub below : (x : ℕ) → x < from → SeenGreater w rank x s t

  -- variables that do not all see it decide
  pub unseen : (size from : ℕ) (b : Bool) → View w rank size from s t b → b ≡ false → (EitherIsBig w s t → ⊥) × (IsTrue false ↔ KnuthGreater w rank s t)
  unseen size from b view e = (
    λ big. elim big [ inl k ↦ not_big w s view.left_small k | inr k ↦ not_big w t view.right_small k ],
    (λ yes. absurd cc, λ g. let sees : IsTrue b = view.greater.1 (λ i small. seen_of w rank (from + i) g) in absurd (cc (sees, e))),
  )

  -- one of the variables that a walk takes
  seen_at : (size from : ℕ) (b : Bool) → View w rank size from s t b → b ≡ true → (x : ℕ) → from ≤ x → x < from + size → SeenGreater w rank x s t
  seen_at size from b view all x le lt =
      let at : from + (x - from) ≡ x = omega arith in
      let small : x - from < size = omega arith in
      subst (λ z. SeenGreater w rank z s t) at (view.greater.0 all (x - from) small)

  pub seen_first : (size : ℕ) (b : Bool) → 0 < size → View w rank size 0 s t b → b ≡ true → SeenBelow size
  seen_first size b some view all = record {
    left_small = view.left_small;
    right_small = view.right_small;
    first = seen_at size 0 b view all 0 (omega arith) (omega arith);
    below = λ x below. seen_at size 0 b view all x (omega arith) (omega (arith, below));
  }

  module _ (from : ℕ) (h : SeenBelow from) (o : Option ℕ) (e : o ≡ least_variable from None t) where
    between : (x : ℕ) → ((y : ℕ) → from ≤ y → y < x → occurrences y t ≡ 0) → (y : ℕ) → y < x → SeenGreater w rank y s t
    between x none y below = elim (cases_lt y from) [
      | inl less ↦ h.below y less
      | inr more ↦ absent w rank y 0 s t (none y more below) h.first
    ]

    pub seen_more : (size x : ℕ) (b : Bool) → o ≡ Some x → View w rank size x s t b → b ≡ true → SeenBelow (x + size)
    seen_more size x b is view all = record {
      left_small = h.left_small;
      right_small = h.right_small;
      first = h.first;
      below = λ y below. elim (cases_lt y x) [
        | inl less ↦ between x none y less
        | inr more ↦ seen_at size x b view all y more below
      ];
    }
      where
        none : (y : ℕ) → from ≤ y → y < x → occurrences y t ≡ 0
        none y le below = none_below_least from t o e y le (subst (IsBelow y) (sym is) below)

    pub seen_all : o ≡ None → (EitherIsBig w s t → ⊥) × (IsTrue true ↔ KnuthGreater w rank s t)
    seen_all is = (
      λ big. elim big [ inl b ↦ not_big w s h.left_small b | inr b ↦ not_big w t h.right_small b ],
      (λ k. greater_of w rank s t (λ x. between (x + 1) (none x) x (omega arith)), λ g. refl),
    )
      where
        none : (x y : ℕ) → from ≤ y → y < x + 1 → occurrences y t ≡ 0
        none x y le below = none_below_least from t o e y le (subst (IsBelow y) (sym is) tt)
