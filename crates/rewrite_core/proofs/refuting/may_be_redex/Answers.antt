use Rattle.std.proofs.Common.{◌≡◌, Some, ap, refl, slice_get, slice_index, subst}
use Rattle.trs_defs.specs.Tree.{trees}
use Rattle.trs_defs.specs.System.{RewriteRule}
use Rattle.trs_core.specs.View.{tree}
use Rattle.term_pool.proofs.RootRules.{Matches, proper_sides, no_redex_at_variable, rule_read, one_more_not, none_at_end, no_redex}
use Rattle.rewrite_core.proofs.refuting.may_be_redex.Goals.{After-index-rules-k}
use Rattle.rewrite_core.proofs.refuting.may_be_redex.Goals as goal

pub returns-in_default : goal.returns-in_default
returns-in_default c = λ _.
    no_redex_at_variable c.args.by_root.now.rules (tree c.args.t.now) c.in_default.field-0 (proper_sides c.args.by_root.now c.args.by_root.now.rules refl c.rules-rules.ensures.valid)
    (ap tree c.in_default.is)

-- the rule of the next number
here : (c : After-index-rules-k) → slice_get c.rules-rules.result.now (slice_index c.with_root-k-items.result.now c.loop-k.k-index) ≡ Some c.index-rules-k.result
here c =
    rule_read c.args.by_root.now.rules c.rules-rules.result.now c.with_root-k-items.result.now c.loop-k.k-index c.index-rules-k.result c.rules-rules.ensures.rules c.with_root-k-items.ensures.within
    c.loop-k-test.true c.index-rules-k.is

pub loop-k-preserved : goal.loop-k-preserved
loop-k-preserved c =
    one_more_not (Matches (tree c.args.t.now)) c.rules-rules.result.now c.with_root-k-items.result.now c.loop-k.k-index c.index-rules-k.result c.loop-k-test.true
    (here (goal.at.loop-k-preserved c).After-index-rules-k) (subst (λ (r : RewriteRule). Matches (tree c.args.t.now) r → ⊥) c.rule.view_is (c.may_match.ensures c.if-may_match.false)) c.loop-k.invariant

pub returns : goal.returns
returns c =
    let rules = c.rules-rules.result.now in
    let t = tree c.args.t.now in
    let none = none_at_end (Matches t) c.in-App.f c.args.by_root.now.rules rules c.with_root-k-items.result.now c.loop-k.k-index c.rules-rules.ensures.rules c.with_root-k-items.ensures.numbers c.loop-k-test.false
    c.loop-k.invariant in
    let proper = proper_sides c.args.by_root.now rules c.rules-rules.ensures.rules c.rules-rules.ensures.valid in
    rw (← c.rules-rules.ensures.rules) (λ _. no_redex rules t c.in-App.f (trees c.in-App.field-1) proper (ap tree c.in-App.is) none)
