use Rattle.trs_core.specs.View.{tree}
use Rattle.trs_caps.specs.Clash.{AreDisjoint}
use Rattle.crit_pairs.specs.Skeletons.{opened}
use Rattle.crit_pairs.proofs.SpotWalk.{apart_passed, rule_at}
use Rattle.crit_pairs.proofs.Keeping.{none_kept}
use Rattle.crit_pairs.proofs.SkeletonLaws.{never_meet}
use Rattle.crit_pairs.proofs.listing.add_unless_same.Goals as goal

pub returns-then-clashes-clause-moves : goal.returns-then-clashes-clause-moves
returns-then-clashes-clause-moves g c =
    let (inner, numbered) = rule_at c.args.rules.now.rules c.args.i c.requires.inner in
    let apart : AreDisjoint (opened (tree c.args.part.now)) (opened inner.left) = rw (c.requires.skeleton, c.skeleton-inner.ensures inner numbered) at (c.clashes.ensures c.if-clashes.true) in
    λ before h.
    none_kept c.args.rules.now.rules c.args.peaks.now c.args.peaks.now.places _ before h
    (apart_passed c.overlaps_unify.ensures.unified c.args.rules.now.rules c.requires.small c.args.j c.args.place.now (tree c.args.part.now) c.requires.outer c.args.i inner numbered
    (never_meet (tree c.args.part.now) inner.left 65536 apart) before c.args.peaks.now.nodes)
