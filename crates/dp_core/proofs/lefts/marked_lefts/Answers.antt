use Rattle.std.proofs.Common.{◌≡◌, length, refl, sym, ap, ◌∙◌, slice_get}
use Rattle.std.proofs.lemmas.Option.{slice_get_read}
use Rattle.trs_core.specs.View.{tree}
use Rattle.trs_defs.specs.System.{RewriteRule}
use Rattle.dp_core.proofs.PairSides.{small_symbol}
use Rattle.dp_core.proofs.LeftNumbering.{one_more_kept}
use Rattle.dp_core.proofs.lefts.marked_lefts.Goals as goal

pub marked_copy-requires : goal.marked_copy-requires
marked_copy-requires c =
    let rules = c.rules-rules.result.now in
    let rule = c.rule-item.result in
    let at = slice_get_read rules (length rules) c.loop-rule.rule-index rule refl c.loop-rule-test.true c.rule-item.is in
    let is_rule = c.systems_are_valid.ensures.valid.each c.loop-rule.rule-index rule (ap (λ rs. slice_get rs c.loop-rule.rule-index) (sym c.rules-rules.ensures.rules) ∙ at) in
    let same : tree c.rule.inside.left ≡ rule.left = ap (λ (r : RewriteRule). r.left) c.rule.view_is in
    λ m is. small_symbol c.args.trs.now.arities c.systems_are_valid.ensures.limits.symbols (tree c.rule.inside.left) m (rw same is_rule.left_well_formed) is

pub loop-rule-preserved : goal.loop-rule-preserved
loop-rule-preserved c =
    let rules = c.rules-rules.result.now in
    let rule = c.rule-item.result in
    one_more_kept rules c.loop-rule.terms.items c.push.new.self.items c.loop-rule.rule-index rule c.in_ok-marked_copy.field-0 c.loop-rule.invariant
    (slice_get_read rules (length rules) c.loop-rule.rule-index rule refl c.loop-rule-test.true c.rule-item.is)
    (λ m is. c.in_ok-marked_copy.ensures m (ap (λ (r : RewriteRule). r.left) c.rule.view_is ∙ is)) c.in_ok-push.ensures.items
