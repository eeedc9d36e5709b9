use Rattle.std.proofs.Common.{ap, ◌∙◌}
use Rattle.crit_pairs.specs.SkeletonView.{skeleton_view}
use Rattle.crit_pairs.proofs.SkeletonLaws.{other_root_disjoint, unlike}
use Rattle.crit_pairs.proofs.skeleton.Skeleton.has_other_root.Goals as goal

pub returns-in-Symbol-Some : goal.returns-in-Symbol-Some
returns-in-Symbol-Some c =
    let a = c.in-Symbol-Some in
    λ differ other is. other_root_disjoint _ other a.f a.g _ (ap skeleton_view a.is-0) (is ∙ a.is-1) (unlike a.f a.g differ)
