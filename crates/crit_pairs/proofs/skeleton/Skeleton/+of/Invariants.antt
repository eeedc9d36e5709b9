use Rattle.std.proofs.Common.{take}
use Rattle.crit_pairs.proofs.SkeletonLaws.{AreSkeletonsOf}
use Rattle.crit_pairs.proofs.skeleton.Skeleton.+of.Given as goal

abbrev pub invariant-loop-arg : goal.invariant-loop-arg
invariant-loop-arg l = AreSkeletonsOf l.items.items (take l.arg-index l.arg-items)
