-- The symbols of terms, from the left.
use Rattle.std.specs.Prelude.{ℕ, List, [], ◌∷◌, ◌++◌}
use Rattle.trs_defs.specs.Tree.{Tree, Trees, var, app, nil, cons}
use Rattle.trs_defs.specs.System.{RewriteRule}
use Rattle.pair_theory.specs.DependencyPair.{DependencyPair}

abbrev mutual
  pub symbols_of : Tree → List ℕ
  symbols_of (var x) = []
  symbols_of (app f ts) = f ∷ symbols_of_all ts

  pub symbols_of_all : Trees → List ℕ
  symbols_of_all nil = []
  symbols_of_all (cons t ts) = symbols_of t ++ symbols_of_all ts

abbrev pub symbols_of_rules : List RewriteRule → List ℕ
symbols_of_rules [] = []
symbols_of_rules (rule ∷ rules) = symbols_of rule.left ++ symbols_of rule.right ++ symbols_of_rules rules

-- of both sides, below the marked roots
abbrev pub symbols_below_roots : List DependencyPair → List ℕ
symbols_below_roots [] = []
symbols_below_roots (p ∷ pairs) = symbols_of_all p.from.args ++ symbols_of_all p.to.args ++ symbols_below_roots pairs
