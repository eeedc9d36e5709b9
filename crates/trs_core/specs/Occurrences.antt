-- Variables in order of occurrence.
use Rattle.std.specs.Prelude.{ℕ, List, [], ◌∷◌, ◌++◌, Option, find, not}
use Rattle.trs_defs.specs.Tree.{Tree, Trees, var, app, nil, cons}
use Rattle.trs_defs.specs.Variable.{has_var}
use Rattle.trs_defs.specs.System.{RewriteRule}

-- the variables of a term from the left, each as often as it occurs
abbrev mutual
  pub occurring_in : Tree → List ℕ
  occurring_in (var n) = n ∷ []
  occurring_in (app f ts) = occurring_in_all ts

  pub occurring_in_all : Trees → List ℕ
  occurring_in_all nil = []
  occurring_in_all (cons t ts) = occurring_in t ++ occurring_in_all ts

-- the first variable of the right side, from the left, that is not in the left side
abbrev pub extra_variable : RewriteRule → Option ℕ
extra_variable r = find (λ v. not (has_var v r.left)) (occurring_in r.right)
