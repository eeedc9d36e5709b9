use Rattle.std.proofs.Common.{subst}
use Rattle.trs_defs.specs.System.{RewriteRule}
use Rattle.crit_pairs.specs.SideSizes.{IsSizeOf}
use Rattle.crit_pairs.proofs.SideSizeLaws.{one_size_more}
use Rattle.crit_pairs.proofs.side_sizes.side_sizes.Goals as goal

pub loop-rule-preserved : goal.loop-rule-preserved
loop-rule-preserved c =
    let S : RewriteRule → Type 0 = λ r. IsSizeOf r.right c.in_ok-of.field-0 in
    one_size_more c.args.rules.now c.loop-rule.rule-index c.rule-item.result c.loop-rule.sizes.items c.push.new.self.items c.in_ok-of.field-0 c.loop-rule-test.true c.rule-item.is
    (subst S c.rule.view_is c.in_ok-of.ensures) c.in_ok-push.ensures.items c.loop-rule.invariant
