-- Two terms that share their subterms.
use Rattle.std.specs.Prelude.{◌≡◌}
use Rattle.trs_defs.specs.Tree.{Tree}
use Rattle.path_lpo.specs.Graph.{tree_at}
use Rattle.path_lpo.specs.Parts.{AreSpansOf}
use Rattle.path_lpo.specs.declared.pair.SharedPair.{SharedPair}

abbrev pub left_tree : SharedPair → Tree
left_tree pair = tree_at pair.graph.nodes.items pair.left

abbrev pub right_tree : SharedPair → Tree
right_tree pair = tree_at pair.graph.nodes.items pair.right

-- the spans are those of the subterms
abbrev pub IsParted : SharedPair → Type 0
IsParted pair = AreSpansOf pair.graph.nodes.items pair.spans.items

-- the pair is of these two
pub record ArePair (s t : Tree) (pair : SharedPair) : Type 0 where
  pub left_is : left_tree pair ≡ s
  pub right_is : right_tree pair ≡ t
  pub parted : IsParted pair
