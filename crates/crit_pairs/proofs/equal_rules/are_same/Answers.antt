use Rattle.crit_pairs.proofs.EqualRules.{same_rule}
use Rattle.crit_pairs.proofs.equal_rules.are_same.Goals as goal

pub returns : goal.returns
returns c = λ same. same_rule _ _ _ _ _ _ c.rule.view_is c.other.view_is (c.same.ensures.0 c.if-not-same.false) (c.same-2.ensures.0 same)
