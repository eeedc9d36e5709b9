use Rattle.std.proofs.Common.{ap, sym, ◌∙◌}
use Rattle.trs_caps.specs.HoledTree.{symbol}
use Rattle.crit_pairs.specs.SkeletonView.{skeleton_view, skeleton_views}
use Rattle.crit_pairs.proofs.SkeletonLaws.{by_parts, parts_of}
use Rattle.crit_pairs.proofs.skeleton.Skeleton.parts.Goals as goal

pub returns-in-Hole : goal.returns-in-Hole
returns-in-Hole c = λ f ts k. let is = ap skeleton_view c.in-Hole.is in absurd (cc (is, k))

pub returns-in-Symbol : goal.returns-in-Symbol
returns-in-Symbol c =
    let f = c.in-Symbol.field-0 in
    parts_of (skeleton_view c.args.self.now) f (skeleton_views c.deref.result.now)
    (by_parts c.args.self.now f _ c.parts.inside.items.items (ap skeleton_view c.in-Symbol.is) c.parts.view_is ∙ ap (λ z. symbol f (skeleton_views z)) (sym c.deref.ensures.value))
