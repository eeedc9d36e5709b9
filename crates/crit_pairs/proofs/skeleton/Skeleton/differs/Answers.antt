use Rattle.std.proofs.Common.{ap, sym, ◌∙◌}
use Rattle.crit_pairs.specs.SkeletonView.{skeleton_view, skeleton_views}
use Rattle.crit_pairs.proofs.SkeletonLaws.{by_parts, roots_disjoint, marks_disjoint, unlike}
use Rattle.crit_pairs.proofs.skeleton.Skeleton.differs.Goals as goal

pub returns-then-f-g : goal.returns-then-f-g
returns-then-f-g c = λ _. roots_disjoint _ _ c.in-Symbol-Symbol.f c.in-Symbol-Symbol.g _ _ (ap skeleton_view c.in-Symbol-Symbol.is-0) (ap skeleton_view c.in-Symbol-Symbol.is-1) c.if-f-g.true

pub returns-in-Some-Some : goal.returns-in-Some-Some
returns-in-Some-Some c =
    let a = c.in-Symbol-Symbol in
    λ differ. marks_disjoint _ _ a.f a.g (skeleton_views c.fs.inside.items.items) (skeleton_views c.gs.inside.items.items) c.in-Some-Some.m c.in-Some-Some.n
    (by_parts c.args.self.now a.f _ c.fs.inside.items.items (ap skeleton_view a.is-0) c.fs.view_is) (by_parts c.args.other.now a.g _ c.gs.inside.items.items (ap skeleton_view a.is-1) c.gs.view_is)
    (sym c.fs.invariant ∙ c.in-Some-Some.is-0) (sym c.gs.invariant ∙ c.in-Some-Some.is-1) (unlike c.in-Some-Some.m c.in-Some-Some.n differ)
