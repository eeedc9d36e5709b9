use Rattle.program_edge.specs.Conclusions.{conclusion_status, conclusion_text}
use Rattle.trsprove.specs.Answers.{status_of, text_of}
use Rattle.trsprove.proofs.Questions.{same_conclusion}
use Rattle.trsprove.proofs.asking.ask_about.Goals as goal

pub returns : goal.returns
returns c =
    let conclusion = c.in_ok-conclusion.conclusion in
    same_conclusion c.args.problem.now c.args.question 1 c.args.budget (status_of c.answer_of.result) (conclusion_status conclusion) (text_of c.answer_of.result)
    (conclusion_text conclusion) c.answer_of.ensures.status c.answer_of.ensures.text c.in_ok-conclusion.ensures
