use Rattle.std.proofs.Common.{inl, refl}
use Rattle.trs_core.specs.View.{tree}
use Rattle.term_pool.proofs.Extending.{extends_itself}
use Rattle.trs_caps.specs.Clash.{AreDisjoint}
use Rattle.crit_pairs.specs.Skeletons.{opened}
use Rattle.crit_pairs.proofs.SpotWalk.{rule_at}
use Rattle.crit_pairs.proofs.SkeletonLaws.{never_meet}
use Rattle.crit_pairs.proofs.SpotPeaks.{none_apart, none_itself, no_places}
use Rattle.crit_pairs.proofs.EqualRules.{each_still}
use Rattle.crit_pairs.proofs.growing.grow_by.Goals as goal

pub returns-then-clashes-clause-adds : goal.returns-then-clashes-clause-adds
returns-then-clashes-clause-adds c =
    let all = c.args.rules.now in
    let (inner, numbered) = rule_at all c.args.i c.requires.inner in
    let apart : AreDisjoint (opened (tree c.args.part.now)) (opened inner.left) = rw c.requires.skeleton at (c.clashes.ensures c.if-clashes.true all inner c.requires.prepared numbered) in
    inl (
      none_apart c.overlaps_unify.ensures.unified all c.requires.small c.args.j c.args.place.now (tree c.args.part.now) c.requires.outer c.args.i inner numbered (never_meet (tree c.args.part.now) inner.left 65536 apart),
      refl,
      refl,
      refl,
    )

pub returns-then-clashes-clause-kept : goal.returns-then-clashes-clause-kept
returns-then-clashes-clause-kept c = extends_itself c.args.pool.now

pub returns-then-i-j-clause-adds : goal.returns-then-i-j-clause-adds
returns-then-i-j-clause-adds c = inl (none_itself c.args.rules.now c.args.j c.args.i c.args.place.now (no_places c.args.place.now c.is_empty.result c.is_empty.ensures c.if-is_empty.true) c.if-i-j.true, refl, refl, refl)

pub grow_by_known-requires-clause-known : goal.grow_by_known-requires-clause-known
grow_by_known-requires-clause-known c = c.of-here.ensures c.args.rules.now c.args.j c.args.place.now c.args.pool.now c.requires.prepared.equal c.requires.known

pub returns-clause-known : goal.returns-clause-known
returns-clause-known c =
    let rules = c.args.rules.now in
    let still = each_still rules c.args.j c.args.place.now c.args.pool.now c.grow_by_known.new.pool c.args.known.now.by_first.items c.in_ok-found.ensures.kept c.requires.known in
    c.in_ok-note.ensures rules c.args.j c.args.place.now c.grow_by_known.new.pool c.requires.prepared.equal still c.in_ok-found.ensures.known
