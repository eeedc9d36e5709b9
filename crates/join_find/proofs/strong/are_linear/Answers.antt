use Rattle.join_find.proofs.LinearRules.{linear_further, not_all_linear}
use Rattle.join_find.proofs.strong.are_linear.Goals as goal

pub returns-then-not-has_linear_sides-clause-not : goal.returns-then-not-has_linear_sides-clause-not
returns-then-not-has_linear_sides-clause-not c = λ _.
    not_all_linear c.args.trs.now.rules c.rules-rule-items.result.now c.loop-rule.rule-index c.rule-item.result c.has_linear_sides.result
    c.rules-rule-items.ensures.rules c.loop-rule-test.true c.rule-item.is c.has_linear_sides.ensures c.if-not-has_linear_sides.true

pub loop-rule-preserved : goal.loop-rule-preserved
loop-rule-preserved c =
    linear_further c.rules-rule-items.result.now c.loop-rule.rule-index c.rule-item.result c.has_linear_sides.result c.loop-rule-test.true c.rule-item.is
    c.has_linear_sides.ensures c.if-not-has_linear_sides.false c.loop-rule.invariant
