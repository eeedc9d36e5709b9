use Rattle.std.proofs.Common.{IfSome, subst, sym, arith}
use Rattle.trs_defs.specs.System.{RewriteRule}
use Rattle.crit_pairs.specs.SideSizes.{IsSizeOf}
use Rattle.crit_pairs.specs.WholeSides.{IsWholeSide}
use Rattle.crit_pairs.proofs.SideSizeLaws.{size_read}
use Rattle.crit_pairs.proofs.WholeLaws.{one_whole_more}
use Rattle.crit_pairs.proofs.whole_sides.whole_sides.Goals as goal

pub bounds-sizes-k : goal.bounds-sizes-k
bounds-sizes-k c = omega (arith, c.loop-k-test.true, c.requires.count)

pub whole_side-requires : goal.whole_side-requires
whole_side-requires c =
    let S : RewriteRule → Type 0 = λ r. IsSizeOf r.right c.index-sizes-k.result in
    subst S (sym c.rule.view_is)
    (size_read c.args.rules.now c.args.sizes.now c.loop-k.k c.index-rules-k.result c.index-sizes-k.result c.requires c.loop-k-test.true c.index-rules-k.is c.index-sizes-k.is)

pub loop-k-preserved : goal.loop-k-preserved
loop-k-preserved c =
    let S : RewriteRule → Type 0 = λ r. IfSome c.whole_side.result (IsWholeSide r.right) in
    one_whole_more c.args.rules.now c.loop-k.k c.index-rules-k.result c.loop-k.sides.items c.push.new.self.items c.whole_side.result c.loop-k-test.true c.index-rules-k.is
    (subst S c.rule.view_is c.whole_side.ensures) c.in_ok-push.ensures.items c.loop-k.invariant
