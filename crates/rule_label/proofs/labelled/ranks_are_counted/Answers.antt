use Rattle.rewrite_core.specs.Check.{holds, lacks}
use Rattle.rule_label.proofs.labelled.ranks_are_counted.Goals as goal

pub returns-then-ranks-rules : goal.returns-then-ranks-rules
returns-then-ranks-rules c = rw c.rules-rules.ensures.rules (lacks (rw c.rules-rules.ensures.rules at c.if-ranks-rules.true))

pub returns : goal.returns
returns c = holds (rw c.rules-rules.ensures.rules at c.if-ranks-rules.false)
