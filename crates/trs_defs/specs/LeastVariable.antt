-- The least variable of a term from a number on.
use Rattle.std.specs.Prelude.{ℕ, ◌≤◌, ◌<◌, Bool, true, Option, Some, None, nat_le, nat_lt, if◌then◌else◌}
use Rattle.trs_defs.specs.Tree.{Tree, Trees, var, app, nil, cons}

abbrev pub is_less : ℕ → Option ℕ → Bool
is_less x None = true
is_less x (Some y) = nat_lt x y

-- the variable, where it is from the number on and less than the best so far, else that
abbrev pub better : ℕ → Option ℕ → ℕ → Option ℕ
better from best x = if nat_le from x then (if is_less x best then Some x else best) else best

-- the least of the variables from the number on and the best so far
abbrev mutual
  pub least_variable : ℕ → Option ℕ → Tree → Option ℕ
  least_variable from best (var x) = better from best x
  least_variable from best (app f ts) = least_of_all from best ts

  pub least_of_all : ℕ → Option ℕ → Trees → Option ℕ
  least_of_all from best nil = best
  least_of_all from best (cons t ts) = least_of_all from (least_variable from best t) ts

-- less than the least variable that was found
abbrev pub IsBelow : ℕ → Option ℕ → Type 0
IsBelow y None = Unit {0}
IsBelow y (Some x) = y < x

abbrev pub IsFrom : ℕ → Option ℕ → Type 0
IsFrom from None = Unit {0}
IsFrom from (Some x) = from ≤ x
