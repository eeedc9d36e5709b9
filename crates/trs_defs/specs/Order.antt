-- A total order of terms: variables before applications; variables by number; applications by symbol, then by the
-- number of arguments, then by the arguments from the left.
use Rattle.std.specs.declared.cmp.Ordering.TheVariants.{Less, Equal, Greater}
use Rattle.std.specs.declared.cmp.Ordering.{Ordering}
use Rattle.std.specs.Ordering.{nat_cmp, ordering_then}
use Rattle.trs_defs.specs.Tree.{Tree, Trees, var, app, nil, cons, count}

abbrev mutual
  pub tree_cmp : Tree → Tree → Ordering
  tree_cmp (var m) (var n) = nat_cmp m n
  tree_cmp (var m) (app g us) = Less
  tree_cmp (app f ts) (var n) = Greater
  tree_cmp (app f ts) (app g us) = ordering_then (nat_cmp f g) (ordering_then (nat_cmp (count ts) (count us)) (trees_cmp ts us))

  pub trees_cmp : Trees → Trees → Ordering
  trees_cmp nil nil = Equal
  trees_cmp nil (cons u us) = Less
  trees_cmp (cons t ts) nil = Greater
  trees_cmp (cons t ts) (cons u us) = ordering_then (tree_cmp t u) (trees_cmp ts us)
