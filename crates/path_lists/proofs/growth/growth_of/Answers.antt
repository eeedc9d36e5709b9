use Rattle.std.proofs.Common.{arith}
use Rattle.path_lists.proofs.Growing.{size_read, small_further, all_small, linear_rules_grow}
use Rattle.path_lists.proofs.growth.growth_of.Goals as goal

pub loop-rule-preserved : goal.loop-rule-preserved
loop-rule-preserved c =
    let small = size_read c.args.trs.now.rules c.rules-rule-items.result.now c.loop-rule.rule-index c.rule-item.result c.rules-rule-items.ensures.rules
    c.loop-rule-test.true c.rule-item.is c.rules-rule-items.ensures.limits.nodes in
    let size = c.right_size-size.ensures small in
    small_further c.rules-rule-items.result.now c.loop-rule.rule-index c.rule-item.result c.loop-rule.most c.larger-most.result c.loop-rule-test.true c.rule-item.is
    (omega (arith, c.larger-most.ensures.second, size)) c.larger-most.ensures.first c.loop-rule.invariant

pub returns : goal.returns
returns c =
    linear_rules_grow c.args.trs.now c.loop-rule.most c.rules-rule-items.ensures.valid c.requires.linear
    (λ rule i. all_small c.args.trs.now.rules c.rules-rule-items.result.now c.loop-rule.rule-index c.loop-rule.most c.rules-rule-items.ensures.rules c.loop-rule-test.false c.loop-rule.invariant rule i)
