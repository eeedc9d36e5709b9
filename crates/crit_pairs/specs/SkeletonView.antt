-- How the code's skeletons stand for terms with holes.
use Rattle.std.specs.Prelude.{List, map}
use Rattle.trs_caps.specs.HoledTree.{HoledTree, HoledTrees, hole, symbol, holed_trees}
use Rattle.crit_pairs.specs.declared.skeleton.Skeleton.{Skeleton}
use Rattle.crit_pairs.specs.declared.skeleton.Skeleton.TheVariants.{Hole, Symbol}

abbrev pub skeleton_view : Skeleton → HoledTree
skeleton_view Hole = hole
skeleton_view (Symbol f cs) = symbol f (holed_trees cs)

-- an argument list of these skeletons
abbrev pub skeleton_views : List Skeleton → HoledTrees
skeleton_views cs = holed_trees (map skeleton_view cs)
