-- The comparisons of linear polynomials as tests.
use Rattle.std.specs.Prelude.{ℕ, ◌^◌, Bool, true, ◌&&◌, nat_le, nat_lt}
use Rattle.trs_defs.specs.Tree.{Tree, Trees, var, app, nil, cons}
use Rattle.order_theory.specs.LinearInterpretation.{constant, coefficient}

module _ (c : ℕ → ℕ → ℕ) where
  -- the coefficient of each variable of a part is below 2^63 in t
  abbrev mutual
    pub has_small : Tree → Tree → Bool
    has_small t (var x) = nat_lt (coefficient c x t) (2 ^ 63)
    has_small t (app f us) = have_small t us

    pub have_small : Tree → Trees → Bool
    have_small t nil = true
    have_small t (cons u us) = has_small t u && have_small t us

  -- no subterm has a constant or a coefficient above 2^63 - 1
  abbrev mutual
    pub is_small : Tree → Bool
    is_small (var x) = true
    is_small (app f ts) = nat_lt (constant c (app f ts)) (2 ^ 63) && (has_small (app f ts) (app f ts) && are_small ts)

    pub are_small : Trees → Bool
    are_small nil = true
    are_small (cons t ts) = is_small t && are_small ts

  -- the coefficient of each variable of a part is at least as great in s as in t
  abbrev mutual
    pub covers_each : Tree → Tree → Tree → Bool
    covers_each s t (var x) = nat_le (coefficient c x t) (coefficient c x s)
    covers_each s t (app f us) = covers_all s t us

    pub covers_all : Tree → Tree → Trees → Bool
    covers_all s t nil = true
    covers_all s t (cons u us) = covers_each s t u && covers_all s t us

  -- a comparison that is too big is false
  abbrev pub linear_weak : Tree → Tree → Bool
  linear_weak s t = (is_small s && is_small t) && (nat_le (constant c t) (constant c s) && covers_each s t t)

  abbrev pub linear_strict : Tree → Tree → Bool
  linear_strict s t = (is_small s && is_small t) && (nat_lt (constant c t) (constant c s) && covers_each s t t)
