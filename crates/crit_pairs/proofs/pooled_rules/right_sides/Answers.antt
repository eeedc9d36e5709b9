use Rattle.std.proofs.Common.{subst}
use Rattle.trs_defs.specs.System.{RewriteRule}
use Rattle.term_pool.proofs.Extending.{extends_on}
use Rattle.crit_pairs.specs.PooledSide.{IsPooledSide}
use Rattle.crit_pairs.proofs.PooledRuleLaws.{one_right_more}
use Rattle.crit_pairs.proofs.pooled_rules.right_sides.Goals as goal

pub loop-rule-preserved : goal.loop-rule-preserved
loop-rule-preserved c =
    let S : RewriteRule → Type 0 = λ r. IsPooledSide c.of.new.pool r.right c.in_ok-of.field-0 in
    record {
      sides = one_right_more c.args.rules.now c.loop-rule.rule-index c.rule-item.result c.loop-rule.pool c.of.new.pool c.loop-rule.sides.items c.push.new.self.items c.in_ok-of.field-0 c.loop-rule-test.true
          c.rule-item.is c.in_ok-of.ensures.kept (subst S c.rule.view_is c.in_ok-of.ensures.side) c.in_ok-push.ensures.items c.loop-rule.invariant.sides;
      kept = extends_on c.args.pool.now c.loop-rule.pool c.of.new.pool c.loop-rule.invariant.kept c.in_ok-of.ensures.kept;
    }
