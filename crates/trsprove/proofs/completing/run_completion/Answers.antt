use Rattle.std.proofs.Common.{subst}
use Rattle.completion_text.specs.Answers.{IsCompletionAnswer}
use Rattle.trsprove.specs.Completions.{no_equations, no_order, ended}
use Rattle.trsprove.proofs.completing.run_completion.Goals as goal

pub returns-in-Ok-Ended : goal.returns-in-Ok-Ended
returns-in-Ok-Ended c =
    let read = subst (IsCompletionAnswer c.args.problem.now c.args.order.now c.args.budget) c.in-Ok-Ended.field-0-is c.in-Ok-Ended.ensures in
    ended read.named read.says read.answered

pub returns-in-Ok-ProblemRefused : goal.returns-in-Ok-ProblemRefused
returns-in-Ok-ProblemRefused c =
    let refused = subst (IsCompletionAnswer c.args.problem.now c.args.order.now c.args.budget) c.in-Ok-ProblemRefused.field-0-is c.in-Ok-ProblemRefused.ensures in
    no_equations c.in-Ok-ProblemRefused.fault refused.0 refused.1

pub returns-in-Ok-OrderRefused : goal.returns-in-Ok-OrderRefused
returns-in-Ok-OrderRefused c =
    let read = subst (IsCompletionAnswer c.args.problem.now c.args.order.now c.args.budget) c.in-Ok-OrderRefused.field-0-is c.in-Ok-OrderRefused.ensures in
    no_order read.named c.in-Ok-OrderRefused.at read.says read.answered
