use Rattle.std.proofs.Common.{◌≡◌, ◌∙◌, ◌+◌, ◌++◌, ◌∷◌, [], List, drop, sym, ap}
use Rattle.sexp_core.specs.Items.{view, views}
use Rattle.names_text.proofs.Loops.{one_more}
use Rattle.term_text.specs.Checked.{Checked, judged}
use Rattle.term_text.specs.Viewed.{viewed, both_viewed}
use Rattle.ari_text.specs.Least.{lesser}
use Rattle.ari_text.specs.LesserLaws.{lesser_associative}
use Rattle.ari_text.specs.Faults.{ari_fault}
use Rattle.ari_text.specs.Entries.{rewrites, entry_of}
use Rattle.ari_text.specs.EntryView.{with_attribute}
use Rattle.trs_defs.specs.System.{RewriteRule}
use Rattle.ari_text.specs.Rules.{rule, rules_of}
use Rattle.ari_text.proofs.RuleSteps.{together, one_more_value, rule_said, no_rule_said}
use Rattle.ari_text.proofs.rules.read_rules.Goals as goal
use Rattle.ari_text.proofs.rules.read_rules.Goals.{in-Rewrites+in_ok-rule+in_ok-rules, in_default}

pub loop-item-preserved : goal.loop-item-preserved
loop-item-preserved c =
    let symbols = c.args.symbols.now in
    let xs = c.args.items.now in
    let i = c.loop-item.item-index in
    let x = view c.item-item.result in
    let more = rules_of symbols (views (drop (i + 1) xs)) in
    let before = c.loop-item.rules in
    let whole = one_more (λ ys. together ari_fault lesser (viewed (λ v. v.items) before) (judged ari_fault lesser (rules_of symbols (views ys)))) xs i c.item-item.result c.loop-item-test.true c.item-item.is in
    let here = λ (r : Checked (List RewriteRule)). together ari_fault lesser (viewed (λ v. v.items) before) (judged ari_fault lesser r) in
    elim c.match-read_entry.branch [
      | in-Rewrites+in_ok-rule+in_ok-rules w ↦
          let left = view w.in-Rewrites.left.now in
          let right = view w.in-Rewrites.right.now in
          let said : with_attribute (rewrites left right) c.read_entry.result.attribute ≡ entry_of x = rw w.in-Rewrites.is at c.read_entry.ensures in
          let pushed : viewed (λ v. v.items) w.in_ok-rules.rules ≡ viewed (λ p. p.0.items ++ p.1 ∷ []) (both_viewed lesser before w.in_ok-rule.rule) =
          w.in_ok-rules.ensures ∙ ap (viewed (λ p. p.0.items ++ p.1 ∷ [])) w.both.ensures in
          rw w.rules-is
          (one_more_value ari_fault lesser before w.in_ok-rules.rules w.in_ok-rule.rule (rule symbols left right) more lesser_associative w.in_ok-rule.ensures pushed
          ∙ ap here (sym (rule_said symbols x left right c.read_entry.result.attribute more said)) ∙ whole ∙ c.loop-item.invariant)
      | in_default w ↦
          rw w.rules-is
          (ap here (sym (no_rule_said symbols x c.read_entry.result.saying c.read_entry.result.attribute more c.read_entry.ensures w.in_default.not-Rewrites))
          ∙ whole ∙ c.loop-item.invariant)
    ]
