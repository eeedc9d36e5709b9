use Rattle.std.proofs.Common.{◌≡◌, ◌+◌, ◌∷◌, ◌++◌, [], Some, slice_get, length, arith, ap, refl, sym, ◌∙◌, subst}
use Rattle.std.proofs.lemmas.Option.{slice_get_read}
use Rattle.trs_defs.specs.System.{RewriteRule}
use Rattle.trs_core.specs.View.{tree}
use Rattle.loop_find.specs.Closures.{rule_closure}
use Rattle.loop_find.specs.Links.{closures_of, IsFit}
use Rattle.loop_find.proofs.Copies.{no_copy}
use Rattle.loop_find.proofs.LoopSteps.{rule_fit}
use Rattle.loop_find.proofs.RuleClosures.{AreAhead, none_ahead, one_more_ahead, all_ahead, closure_of_rule}
use Rattle.loop_find.proofs.loops.rules_as_closures.Goals as goal

pub loop-k-init : goal.loop-k-init
loop-k-init c = record {
  rules = none_ahead c.args.trs.now.rules _ c.no_closures-closures.ensures.none;
  sound = c.no_closures-closures.ensures.sound c.args.trs.now.arities;
  attempts = c.no_closures-closures.ensures.attempts;
  copies =
      let rules = c.args.trs.now.rules in
      let count : length c.in_ok-copies.copies.items ≡ length rules = c.in_ok-copies.ensures.count ∙ ap length c.rules.ensures.rules in
      rw c.no_closures-closures.ensures.copies (no_copy rules c.in_ok-copies.copies.items count c.in_ok-copies.ensures.none);
}

pub loop-k-preserved : goal.loop-k-preserved
loop-k-preserved c =
    let rules = c.args.trs.now.rules in
    let at : slice_get rules c.loop-k.k ≡ Some c.rule-item.result =
    ap (λ rs. slice_get rs c.loop-k.k) (sym c.rules-rule-items.ensures.rules)
    ∙ slice_get_read c.rules-rule-items.result.now (length c.rules-rule-items.result.now) c.loop-k.k c.rule-item.result refl c.loop-k-test.true c.rule-item.is in
    let fit = rule_fit c.args.trs.now c.rules-rule-items.ensures.valid c.rules-rule-items.ensures.variables c.loop-k.k c.rule-item.result at in
    let l : tree c.rule.inside.left ≡ c.rule-item.result.left = ap (λ (r : RewriteRule). r.left) c.rule.view_is in
    let r : tree c.rule.inside.right ≡ c.rule-item.result.right = ap (λ (r : RewriteRule). r.right) c.rule.view_is in
    let added : closures_of c.add_first.new.self ≡ closures_of c.loop-k.closures ++ rule_closure c.loop-k.k c.rule-item.result ∷ [] =
    c.in_ok-add_first.ensures.added
    ∙ ap (λ x. closures_of c.loop-k.closures ++ x ∷ []) (closure_of_rule (tree c.rule.inside.left) (tree c.rule.inside.right) c.rule-item.result c.loop-k.k c.new.result c.rule.view_is c.new.ensures) in
    record {
      rules = subst (AreAhead rules (c.loop-k.k + 1)) (sym added) (one_more_ahead rules c.loop-k.k c.rule-item.result at (closures_of c.loop-k.closures) c.loop-k.invariant.rules);
      sound = c.in_ok-add_first.ensures.sound c.args.trs.now.arities c.loop-k.invariant.sound
          (subst (IsFit c.args.trs.now.arities) (sym l) fit.0) (subst (IsFit c.args.trs.now.arities) (sym r) fit.1);
      attempts = c.in_ok-add_first.ensures.attempts ∙ c.loop-k.invariant.attempts;
      copies = rw c.in_ok-add_first.ensures.copies c.loop-k.invariant.copies;
    }

pub returns-clause-rules : goal.returns-clause-rules
returns-clause-rules c =
    let count : length c.rules-rule-items.result.now ≡ length c.args.trs.now.rules = ap length c.rules-rule-items.ensures.rules in
    all_ahead c.args.trs.now.rules c.loop-k.k _ c.loop-k.invariant.rules (omega (arith, count, c.loop-k-test.false))
