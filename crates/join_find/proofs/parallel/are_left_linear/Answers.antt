use Rattle.join_find.proofs.LinearRules.{left_linear_further, not_all_left_linear}
use Rattle.join_find.proofs.parallel.are_left_linear.Goals as goal

pub returns-then-not-has_linear_left-clause-not : goal.returns-then-not-has_linear_left-clause-not
returns-then-not-has_linear_left-clause-not c = λ _.
    not_all_left_linear c.args.trs.now.rules c.rules-rule-items.result.now c.loop-rule.rule-index c.rule-item.result c.has_linear_left.result
    c.rules-rule-items.ensures.rules c.loop-rule-test.true c.rule-item.is c.has_linear_left.ensures c.if-not-has_linear_left.true

pub loop-rule-preserved : goal.loop-rule-preserved
loop-rule-preserved c =
    left_linear_further c.rules-rule-items.result.now c.loop-rule.rule-index c.rule-item.result c.has_linear_left.result c.loop-rule-test.true c.rule-item.is
    c.has_linear_left.ensures c.if-not-has_linear_left.false c.loop-rule.invariant
