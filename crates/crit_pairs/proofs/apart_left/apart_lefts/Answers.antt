use Rattle.std.proofs.Common.{◌≡◌, length, refl, arith, ap, sym, subst, ◌∙◌}
use Rattle.std.proofs.lemmas.Option.{slice_get_read}
use Rattle.trs_defs.specs.System.{RewriteRule}
use Rattle.trs_core.specs.SystemLimits.{HasSmallVariables}
use Rattle.trs_core.specs.View.{tree}
use Rattle.crit_pairs.specs.Skeletons.{opened}
use Rattle.crit_pairs.proofs.SkeletonLaws.{skeletons_count, skeleton_read}
use Rattle.crit_pairs.proofs.SpotWalk.{left_small}
use Rattle.crit_pairs.proofs.apart_left.apart_lefts.Goals as goal

pub bounds-skeletons-k : goal.bounds-skeletons-k
bounds-skeletons-k c = omega (arith, c.loop-k-test.true, skeletons_count c.args.skeletons.now c.args.rules.now c.requires.skeletons)

pub of-requires-clause-small : goal.of-requires-clause-small
of-requires-clause-small c =
    let left_is : tree c.rule.inside.left ≡ c.index-rules-k.result.left = ap (λ (r : RewriteRule). r.left) c.rule.view_is in
    subst HasSmallVariables (sym left_is) (left_small c.args.rules.now c.loop-k.k c.index-rules-k.result c.requires.small c.loop-k-test.true c.index-rules-k.is)

pub of-requires-clause-skeleton : goal.of-requires-clause-skeleton
of-requires-clause-skeleton c =
    let count = skeletons_count c.args.skeletons.now c.args.rules.now c.requires.skeletons in
    let read = slice_get_read c.args.rules.now (length c.args.rules.now) c.loop-k.k c.index-rules-k.result refl c.loop-k-test.true c.index-rules-k.is in
    let skeleton = skeleton_read c.args.skeletons.now c.args.rules.now c.loop-k.k c.index-skeletons-k.result c.index-rules-k.result c.requires.skeletons (omega (arith, c.loop-k-test.true, count)) c.index-skeletons-k.is read in
    skeleton ∙ sym (ap (λ (r : RewriteRule). opened r.left) c.rule.view_is)
