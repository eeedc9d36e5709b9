use Rattle.std.proofs.Common.{rules}
use Rattle.std.proofs.lemmas.Result.{IfOk-weaker}
use Rattle.completion_text.specs.Answers.{IsOrderAnswer, IsCompletionAnswer}
use Rattle.completion_text.proofs.Completed.{for_problem}
use Rattle.completion_text.proofs.answering.complete_texts.Goals as goal

pub returns-in-Ok : goal.returns-in-Ok
returns-in-Ok c =
    let problem = c.args.problem.now in
    let order = c.args.order.now in
    let budget = c.args.budget in
    IfOk-weaker c.complete_by_text.result (λ a. IsOrderAnswer c.in-Ok.system order budget a) (λ a. IsCompletionAnswer problem order budget a)
    (λ a. for_problem problem order budget c.in-Ok.system c.in-Ok.ensures.found a) c.complete_by_text.ensures

pub returns-in-Err : goal.returns-in-Err
returns-in-Err c = (c.in-Err.ensures.refused, search rules)
