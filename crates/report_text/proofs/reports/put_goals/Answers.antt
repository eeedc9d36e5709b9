use Rattle.std.proofs.Common.{◌∙◌, drop, arith}
use Rattle.report_text.specs.GoalLines.{goal_words}
use Rattle.report_text.proofs.GoalTexts.{line_before, lines_done}
use Rattle.report_text.proofs.reports.put_goals.Goals as goal

pub loop-i-preserved : goal.loop-i-preserved
loop-i-preserved c =
    line_before c.args.system.now (goal_words c.args.question) c.args.parts.now c.loop-i.i c.goal_word-word.result.now c.index-parts-i.result c.loop-i.out.items
    c.put_goal.new.out.items c.goal_word-word.ensures c.loop-i-test.true c.index-parts-i.is c.in_ok-put_goal.ensures
    ∙ c.loop-i.invariant

pub returns : goal.returns
returns c =
    lines_done c.args.system.now (drop c.loop-i.i (goal_words c.args.question)) c.args.parts.now c.loop-i.i c.loop-i.out.items _
    (omega (arith, c.loop-i-test.false)) c.loop-i.invariant
