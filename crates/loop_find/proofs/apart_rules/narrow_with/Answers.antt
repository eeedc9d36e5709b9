use Rattle.std.proofs.Common.{get_or, arith, ap, ◌∙◌}
use Rattle.trs_defs.proofs.ListItems.{item_there}
use Rattle.crit_pairs.specs.Apart.{renamed_apart}
use Rattle.crit_pairs.proofs.SpotWalk.{left_small, right_small}
use Rattle.loop_find.proofs.Copies.{copy_read, with_copy}
use Rattle.loop_find.proofs.Extensions.{rule_read}
use Rattle.loop_find.proofs.apart_rules.narrow_with.Goals as goal

pub index-requires : goal.index-requires
index-requires c = let count = c.requires.copies.count in let k = c.requires.rule in omega (arith, count, k, c.args.copies.now.ok.0)

pub index_mut-requires : goal.index_mut-requires
index_mut-requires c = let count = c.requires.copies.count in let k = c.requires.rule in omega (arith, count, k, c.args.copies.now.ok.0)

pub returns-in-Some-clause-narrowed : goal.returns-in-Some-clause-narrowed
returns-in-Some-clause-narrowed c = λ rule at.
    c.in_ok-found.ensures rule (copy_read c.args.trial.now.trs.now.rules c.args.copies.now.items c.requires.copies c.args.k c.requires.rule c.index.result.now c.in-Some.apart c.index.ensures c.in-Some.is rule at)

pub renamed_rule-requires-clause-left : goal.renamed_rule-requires-clause-left
renamed_rule-requires-clause-left c =
    left_small c.args.trial.now.trs.now.rules c.args.k c.index-rules-k.result c.rules.ensures.variables c.requires.rule (c.index-rules-k.is ∙ ap (λ rs. get_or rs c.args.k c.index-rules-k.result) c.rules.ensures.rules)

pub renamed_rule-requires-clause-right : goal.renamed_rule-requires-clause-right
renamed_rule-requires-clause-right c =
    right_small c.args.trial.now.trs.now.rules c.args.k c.index-rules-k.result c.rules.ensures.variables c.requires.rule (c.index-rules-k.is ∙ ap (λ rs. get_or rs c.args.k c.index-rules-k.result) c.rules.ensures.rules)

pub returns-clause-narrowed : goal.returns-clause-narrowed
returns-clause-narrowed c = λ rule at.
    let same = rule_read c.args.trial.now.trs.now.rules c.rules.result.now c.rules.ensures.rules c.args.k c.index-rules-k.result rule c.index-rules-k.is at in
    c.in_ok-found-2.ensures rule (c.in_ok-apart.ensures ∙ ap renamed_apart same)

pub returns-clause-copies : goal.returns-clause-copies
returns-clause-copies c =
    let rules = c.args.trial.now.trs.now.rules in
    let (rule, at) = item_there rules c.args.k c.requires.rule in
    let same = rule_read rules c.rules.result.now c.rules.ensures.rules c.args.k c.index-rules-k.result rule c.index-rules-k.is at in
    with_copy rules c.args.copies.now.items c.requires.copies c.args.k rule c.in_ok-apart.apart at (c.in_ok-apart.ensures ∙ ap renamed_apart same)
