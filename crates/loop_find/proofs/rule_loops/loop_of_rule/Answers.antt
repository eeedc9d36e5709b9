use Rattle.std.proofs.Common.{◌≡◌, Some, slice_get, length, arith, ap, sym, ◌∙◌, subst}
use Rattle.std.proofs.lemmas.Option.{same_Some}
use Rattle.trs_defs.specs.System.{RewriteRule}
use Rattle.trs_defs.specs.Path.{Follows}
use Rattle.trs_core.specs.View.{tree}
use Rattle.term_pool.proofs.NarrowLaws.{narrow_of_well_formed}
use Rattle.term_pool.proofs.StepLemmas.{rule_numbered}
use Rattle.loop_find.specs.Closures.{rule_closure}
use Rattle.loop_find.proofs.Recurrences.{leads_true, leads_false}
use Rattle.loop_find.proofs.LoopsFound.{not_returning, loop_found}
use Rattle.loop_find.proofs.RuleClosures.{rule_follows, root_path}
use Rattle.loop_find.proofs.rule_loops.loop_of_rule.Goals as goal

pub returns-then-not-may_hold : goal.returns-then-not-may_hold
returns-then-not-may_hold c = λ r at.
    let rule : RewriteRule = record { left = tree c.rule.inside.left; right = tree c.rule.inside.right } in
    let long : length c.rules.result.now ≡ length c.args.trs.now.rules = ap length c.rules.ensures.rules in
    let numbered : slice_get c.args.trs.now.rules c.args.k ≡ Some rule =
    rule_numbered c.args.trs.now.rules c.rules.result.now c.args.k c.index-rules-k.result (tree c.rule.inside.left) (tree c.rule.inside.right) c.rules.ensures.rules (omega (arith, long, c.requires.there)) c.index-rules-k.is c.rule.view_is in
    let same : rule ≡ r = same_Some rule r (sym numbered ∙ at) in
    not_returning c.args.trs.now.rules (rule_closure c.args.k r) (tree c.rule.inside.left) (tree c.rule.inside.right) (ap (λ (z : RewriteRule). z.left) same) (ap (λ (z : RewriteRule). z.right) same)
    (c.may_hold.ensures c.if-not-may_hold.true)

pub first_instance-requires-clause-narrow : goal.first_instance-requires-clause-narrow
first_instance-requires-clause-narrow c =
    let rule : RewriteRule = record { left = tree c.rule.inside.left; right = tree c.rule.inside.right } in
    let long : length c.rules.result.now ≡ length c.args.trs.now.rules = ap length c.rules.ensures.rules in
    let numbered : slice_get c.args.trs.now.rules c.args.k ≡ Some rule =
    rule_numbered c.args.trs.now.rules c.rules.result.now c.args.k c.index-rules-k.result (tree c.rule.inside.left) (tree c.rule.inside.right) c.rules.ensures.rules (omega (arith, long, c.requires.there)) c.index-rules-k.is c.rule.view_is in
    narrow_of_well_formed c.args.trs.now.arities c.requires.arities (tree c.rule.inside.right) (c.rules.ensures.valid.each c.args.k rule numbered).right_well_formed

pub returns-then-not-branch : goal.returns-then-not-branch
returns-then-not-branch c = λ r at.
    let rule : RewriteRule = record { left = tree c.rule.inside.left; right = tree c.rule.inside.right } in
    let long : length c.rules.result.now ≡ length c.args.trs.now.rules = ap length c.rules.ensures.rules in
    let numbered : slice_get c.args.trs.now.rules c.args.k ≡ Some rule =
    rule_numbered c.args.trs.now.rules c.rules.result.now c.args.k c.index-rules-k.result (tree c.rule.inside.left) (tree c.rule.inside.right) c.rules.ensures.rules (omega (arith, long, c.requires.there)) c.index-rules-k.is c.rule.view_is in
    let same : rule ≡ r = same_Some rule r (sym numbered ∙ at) in
    not_returning c.args.trs.now.rules (rule_closure c.args.k r) (tree c.rule.inside.left) (tree c.rule.inside.right) (ap (λ (z : RewriteRule). z.left) same) (ap (λ (z : RewriteRule). z.right) same)
    (leads_false _ _ _ _ _ c.if-not-branch.true c.in_ok-first_instance.ensures.leads).none

pub returns : goal.returns
returns c = λ r at.
    let rule : RewriteRule = record { left = tree c.rule.inside.left; right = tree c.rule.inside.right } in
    let long : length c.rules.result.now ≡ length c.args.trs.now.rules = ap length c.rules.ensures.rules in
    let numbered : slice_get c.args.trs.now.rules c.args.k ≡ Some rule =
    rule_numbered c.args.trs.now.rules c.rules.result.now c.args.k c.index-rules-k.result (tree c.rule.inside.left) (tree c.rule.inside.right) c.rules.ensures.rules (omega (arith, long, c.requires.there)) c.index-rules-k.is c.rule.view_is in
    let same : rule ≡ r = same_Some rule r (sym numbered ∙ at) in
    let path = root_path c.push.new.self.items c.new-path.result.items c.new.result c.args.k c.in_ok-push.ensures.items c.new-path.ensures.items c.new.ensures in
    loop_found c.args.trs.now.rules (rule_closure c.args.k r) (tree c.rule.inside.left) (tree c.rule.inside.right) (ap (λ (z : RewriteRule). z.left) same) (ap (λ (z : RewriteRule). z.right) same)
    c.push.new.self.items path (tree c.in_ok-start.start) c.in_ok-at.at c.new-place.result.items c.first_instance.new.place.items (ap tree c.in_ok-start.ensures) (c.in_ok-at.ensures ∙ c.deref.ensures.value) c.new-place.ensures.items
    (leads_true _ _ _ _ _ c.if-not-branch.false c.in_ok-first_instance.ensures.leads)
    (subst (λ q. Follows c.args.trs.now.rules q (tree c.rule.inside.left) (tree c.rule.inside.right)) (sym path) (rule_follows c.args.trs.now c.rules.ensures.limits c.args.k rule numbered))
