use Rattle.std.specs.Prelude.{◌≡◌, slice_get, Some, length, refl}
use Rattle.std.proofs.lemmas.List.{drop_all}
use Rattle.rewrite_core.specs.Check.{holds, lacks}
use Rattle.rewrite_core.specs.declared.checks.refusals.CheckFault.TheVariants.{Refused}
use Rattle.rewrite_core.specs.declared.checks.refusals.StepRefused.TheVariants.{NotLinear}
use Rattle.rewrite_core.proofs.Items.{one_more_passed, item_refused, all_passed}
use Rattle.std.proofs.lemmas.Option.{slice_get_read}
use Rattle.closed_pairs.specs.LinearRules.{is_linear}
use Rattle.closed_pairs.proofs.linear.linear_check.Goals as goal

pub returns-then-not-has_linear_sides : goal.returns-then-not-has_linear_sides
returns-then-not-has_linear_sides c =
    let at : slice_get c.args.trs.now.rules c.loop-n.n ≡ Some c.rule-item.result =
    rw c.rules-rule-items.ensures.rules at (slice_get_read c.rules-rule-items.result.now (length c.rules-rule-items.result.now) c.loop-n.n c.rule-item.result refl c.loop-n-test.true c.rule-item.is) in
    record {
      answers = item_refused is_linear c.args.trs.now.rules c.loop-n.n c.rule-item.result (Refused (NotLinear c.loop-n.n)) at
          ((lacks (λ h. let wrong = c.has_linear_sides.ensures.1 h in let other = c.if-not-has_linear_sides.true in absurd cc))) c.loop-n.invariant;
    }

pub loop-n-preserved : goal.loop-n-preserved
loop-n-preserved c =
    let at : slice_get c.args.trs.now.rules c.loop-n.n ≡ Some c.rule-item.result =
    rw c.rules-rule-items.ensures.rules at (slice_get_read c.rules-rule-items.result.now (length c.rules-rule-items.result.now) c.loop-n.n c.rule-item.result refl c.loop-n-test.true c.rule-item.is) in
    one_more_passed is_linear c.args.trs.now.rules c.loop-n.n c.rule-item.result at
    ((holds (c.has_linear_sides.ensures.0 (cc (c.if-not-has_linear_sides.false))))) c.loop-n.invariant

pub returns : goal.returns
returns c = record { answers = all_passed is_linear c.args.trs.now.rules c.loop-n.n (rw c.rules-rule-items.ensures.rules at (drop_all c.loop-n.n c.rules-rule-items.result.now c.loop-n-test.false)) c.loop-n.invariant }
