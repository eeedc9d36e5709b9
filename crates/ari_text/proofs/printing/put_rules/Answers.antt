use Rattle.std.proofs.Common.{◌++◌, ◌∙◌, drop, ◌+◌}
use Rattle.sexp_core.specs.Printed.{lines}
use Rattle.ari_text.specs.PrintedProblem.{rule_items}
use Rattle.names_text.proofs.Loops.{one_more}
use Rattle.ari_text.proofs.PrintedText.{rules_step}
use Rattle.ari_text.proofs.printing.put_rules.Goals as goal

pub loop-rule-preserved : goal.loop-rule-preserved
loop-rule-preserved c =
    let names = c.args.system.now.names in
    let k = c.args.underscores in
    let left = one_more (λ rs. c.loop-rule.out.items ++ lines (rule_items k names rs)) c.args.rules.now c.loop-rule.rule-index c.rule-item.result c.loop-rule-test.true c.rule-item.is in
    rw c.in_ok-put_rule.ensures
    (rules_step k names c.rule-item.result (drop (c.loop-rule.rule-index + 1) c.args.rules.now) c.loop-rule.out.items _ (left ∙ c.loop-rule.invariant))
