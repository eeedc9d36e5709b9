use Rattle.std.proofs.Common.{refl}
use Rattle.path_lists.proofs.Growing.{step_grows, growth_itself}
use Rattle.term_pool.proofs.StepLemmas.{rule_numbered}
use Rattle.path_lists.proofs.room.growth_by.Goals as goal

pub returns-in-Some : goal.returns-in-Some
returns-in-Some c =
    let numbered = rule_numbered _ _ _ c.in-Some.rule.now c.in-Some.rule.now.left c.in-Some.rule.now.right c.rules.ensures.rules c.in-Some.ensures.lookup.3.0 c.in-Some.ensures.lookup.1 refl in
    step_grows c.args.trs.now c.args.growth c.args.k c.growth_of_rule.result c.in-Some.rule.now c.rules.ensures.valid c.rules.ensures.limits.nodes c.requires numbered c.growth_of_rule.ensures

pub returns-in-None : goal.returns-in-None
returns-in-None c = growth_itself c.args.trs.now.rules c.args.growth c.args.k c.requires
