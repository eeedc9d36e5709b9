-- Each part is smaller than the skeleton.
use Rattle.std.specs.Prelude.{◌≤◌, List, [], ◌∷◌}
use Rattle.std.proofs.Common.{arith}
use Rattle.trs_caps.specs.HoledTree.{holed_size, holed_sizes}
use Rattle.crit_pairs.specs.declared.skeleton.Skeleton.{Skeleton}
use Rattle.crit_pairs.specs.declared.skeleton.Skeleton.TheVariants.{Hole, Symbol}
use Rattle.crit_pairs.specs.declared.skeleton.SkeletonParts.TheDeep.{deep-Skeleton}
use Rattle.crit_pairs.specs.SkeletonView.{skeleton_view, skeleton_views}
use denote.Param.Weighed.{most}

deep_le_size : (c : Skeleton) → deep-Skeleton c ≤ holed_size (skeleton_view c)
deep_le_size Hole = omega arith
deep_le_size (Symbol f cs) = omega arith

pub most_le_sizes : (cs : List Skeleton) → most deep-Skeleton cs ≤ holed_sizes (skeleton_views cs)
most_le_sizes [] = omega arith
most_le_sizes (c ∷ cs) = omega (arith, deep_le_size c, most_le_sizes cs)
