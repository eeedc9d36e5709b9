-- Terms so small that their polynomials have no big coefficient.
use Rattle.std.specs.Prelude.{ℕ, ◌+◌, ◌*◌, ◌^◌, Bool, IsTrue, ◌&&◌, nat_lt}
use Rattle.trs_defs.specs.Tree.{Tree, Trees, var, app, nil, cons}
use Rattle.trs_defs.specs.System.{RewriteRule}
use Rattle.poly_lin.specs.TooBig.{EitherIsBig}

-- the value of the term's polynomial where all coefficients are 2 and variables stand for 1
abbrev mutual
  pub greatest : Tree → ℕ
  greatest (var x) = 1
  greatest (app f ts) = 2 * (1 + greatest_of ts)

  pub greatest_of : Trees → ℕ
  greatest_of nil = 0
  greatest_of (cons t ts) = greatest t + greatest_of ts

abbrev pub has_small_sides : RewriteRule → Bool
has_small_sides r = nat_lt (greatest r.left) (2 ^ 63) && nat_lt (greatest r.right) (2 ^ 63)

-- where the rule is said to be small, no subterm of its sides has a big coefficient
abbrev pub IsSafe : (ℕ → ℕ → ℕ) → Bool → RewriteRule → Type 0
IsSafe c small r = IsTrue small → EitherIsBig c r.left r.right → ⊥
