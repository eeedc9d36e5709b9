-- Whether a term stands in another one, as a test.
use Rattle.std.specs.Prelude.{Bool, false, ◌||◌}
use Rattle.trs_defs.specs.Tree.{Tree, Trees, var, app, nil, cons}
use Rattle.order_theory.specs.PathTest.{same_tree}

-- whether t stands in s and is not all of it
abbrev mutual
  pub has_proper_subterm : Tree → Tree → Bool
  has_proper_subterm (var x) t = false
  has_proper_subterm (app f ss) t = has_below ss t

  -- whether it is one of the terms or stands in one of them
  pub has_below : Trees → Tree → Bool
  has_below nil t = false
  has_below (cons s ss) t = same_tree s t || (has_proper_subterm s t || has_below ss t)

-- whether t is s or stands in it
abbrev pub has_subterm : Tree → Tree → Bool
has_subterm s t = same_tree s t || has_proper_subterm s t
