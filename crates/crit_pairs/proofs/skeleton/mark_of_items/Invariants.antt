use Rattle.std.proofs.Common.{◌≡◌, drop}
use Rattle.crit_pairs.specs.Skeletons.{mark_after}
use Rattle.crit_pairs.specs.SkeletonView.{skeleton_views}
use Rattle.crit_pairs.proofs.skeleton.mark_of_items.Given as goal

abbrev pub invariant-loop-item : goal.invariant-loop-item
invariant-loop-item l = mark_after l.mark (skeleton_views (drop l.item-index l.items)) ≡ mark_after 0 (skeleton_views l.items)
