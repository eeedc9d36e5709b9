use Rattle.std.proofs.Common.{◌∙◌, ap, sym}
use Rattle.trs_caps.specs.HoledTree.{symbol}
use Rattle.crit_pairs.specs.SkeletonView.{skeleton_view, skeleton_views}
use Rattle.crit_pairs.proofs.SkeletonLaws.{by_parts, argument_disjoint}
use Rattle.crit_pairs.proofs.skeleton.Skeleton.+clashes_below.Goals as goal

pub returns-then-differs : goal.returns-then-differs
returns-then-differs t c =
    let a = c.in-Symbol-Symbol in
    λ _. argument_disjoint _ _ a.field-0-0 a.field-0-1 c.deref-x-items.result.now c.gs.inside.items.items c.loop-i.i c.x-item.result c.index.result.now
    (by_parts c.args.self.now a.field-0-0 _ c.fs.inside.items.items (ap skeleton_view a.is-0) c.fs.view_is ∙ ap (λ z. symbol a.field-0-0 (skeleton_views z)) (sym c.deref-x-items.ensures.value))
    (by_parts c.args.other.now a.field-0-1 _ c.gs.inside.items.items (ap skeleton_view a.is-1) c.gs.view_is)
    c.loop-i-test.true c.loop-i.invariant c.x-item.is c.index.ensures (c.differs.ensures c.if-differs.true)

pub returns-then-clashes_below : goal.returns-then-clashes_below
returns-then-clashes_below t c =
    let a = c.in-Symbol-Symbol in
    λ _. argument_disjoint _ _ a.field-0-0 a.field-0-1 c.deref-y-items.result.now c.gs.inside.items.items c.loop-k.k c.y-item.result c.index-in-loop-k.result.now
    (by_parts c.args.self.now a.field-0-0 _ c.fs.inside.items.items (ap skeleton_view a.is-0) c.fs.view_is ∙ ap (λ z. symbol a.field-0-0 (skeleton_views z)) (sym c.deref-y-items.ensures.value))
    (by_parts c.args.other.now a.field-0-1 _ c.gs.inside.items.items (ap skeleton_view a.is-1) c.gs.view_is)
    c.loop-k-test.true c.loop-k.invariant c.y-item.is c.index-in-loop-k.ensures (c.clashes_below.ensures c.if-clashes_below.true)
