use Rattle.std.proofs.Common.{rules, ◌≡◌, ◌∙◌, ◌++◌, codes, ap₂, map, ap, subst, sym}
use Rattle.std.proofs.lemmas.List.{length-map}
use Rattle.report_text.specs.GoalLines.{report_lines}
use Rattle.report_text.specs.tree_definitions.Questions.{goal_count}
use Rattle.report_text.specs.tree_definitions.Reports.{part_of}
use Rattle.conclusion.proofs.Texts.{lost_is_text}
use Rattle.conclusion.proofs.tree_text.lost_text.Goals as goal

pub print_report-requires : goal.print_report-requires
print_report-requires c = record {
  goals = sym (length-map c.in_ok-report.report.goals.items part_of) ∙ c.in_ok-report.ensures.is_true.count ∙ ap goal_count (sym c.question.ensures);
}

pub returns : goal.returns
returns c =
    let tree = c.args.tree.now in
    let parts = map part_of c.in_ok-report.report.goals.items in
    let first : c.in_ok-text.text.items ≡ codes "MAYBE\n" = search rules in
    let rest : c.deref.result.now ≡ c.in_ok-lines.lines.items = c.deref.ensures.value in
    let lines : c.in_ok-lines.lines.items ≡ report_lines c.args.system.now tree.question parts =
    subst (λ q. c.in_ok-lines.lines.items ≡ report_lines c.args.system.now q parts) c.question.ensures c.in_ok-lines.ensures in
    lost_is_text c.args.system.now tree parts c.in_ok-lines.lines.items _ c.requires.system c.requires.lost.0 c.in_ok-report.ensures.is_true
    c.in_ok-report.ensures.of_tree lines (c.in_ok-extend_from_slice.ensures.items ∙ ap₂ (λ a b. a ++ b) first rest)
