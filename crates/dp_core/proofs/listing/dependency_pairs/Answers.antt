use Rattle.std.proofs.Common.{◌≡◌, Some, slice_get, ap, sym, ◌∙◌, refl}
use Rattle.std.proofs.lemmas.Option.{slice_get_read}
use Rattle.trs_defs.specs.System.{RewriteRule}
use Rattle.trs_core.specs.View.{tree}
use Rattle.dp_core.proofs.PairWalk.{narrow_right, passed_over, rule_passed}
use Rattle.dp_core.proofs.listing.dependency_pairs.Goals.{After-new-place}
use Rattle.dp_core.proofs.listing.dependency_pairs.Goals as goal

-- the rule, as it is read
numbered : (c : After-new-place) → slice_get c.args.trs.now.rules c.loop-k.k ≡ Some c.rule-item.result
numbered c =
    ap (λ rs. slice_get rs c.loop-k.k) (sym c.rules-rule-items.ensures.rules) ∙ slice_get_read c.rules-rule-items.result.now _ c.loop-k.k c.rule-item.result refl c.loop-k-test.true c.rule-item.is

right : (c : After-new-place) → tree c.rule.inside.right ≡ c.rule-item.result.right
right c = ap (λ (r : RewriteRule). r.right) c.rule.view_is

pub add_below-requires-clause-narrow : goal.add_below-requires-clause-narrow
add_below-requires-clause-narrow c =
    let a = (goal.at.add_below-requires-clause-narrow c).After-new-place in
    narrow_right c.args.trs.now c.systems_are_valid.ensures.bytes c.rules-rule-items.ensures.valid c.loop-k.k c.rule-item.result (tree c.rule.inside.right) (right a) (numbered a)

pub loop-k-preserved-then-not-has_defined : goal.loop-k-preserved-then-not-has_defined
loop-k-preserved-then-not-has_defined c =
    let rules = c.args.trs.now.rules in
    passed_over _ c.loop-k.pairs.items _ _ c.loop-k.invariant
    (rule_passed rules c.loop-k.k c.rule-item.result (tree c.rule.inside.right) (ap (λ (r : RewriteRule). r.right) c.rule.view_is)
    (ap (λ rs. slice_get rs c.loop-k.k) (sym c.rules-rule-items.ensures.rules) ∙ slice_get_read c.rules-rule-items.result.now _ c.loop-k.k c.rule-item.result refl c.loop-k-test.true c.rule-item.is)
    (rw c.in_ok-by_root.ensures at (c.has_defined.ensures.0 c.if-not-has_defined.true)))
