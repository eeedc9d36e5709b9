use Rattle.std.proofs.Common.{Err, subst}
use Rattle.trsbatch.specs.Words.{batch_of, AnswersBatch}
use Rattle.program_edge.specs.Words.{texts}
use Rattle.trsbatch.specs.Output.{usage}
use Rattle.trsbatch.proofs.answer.answer_alone.Goals as goal

pub returns-in-Err-Usage-clause-answer : goal.returns-in-Err-Usage-clause-answer
returns-in-Err-Usage-clause-answer g c =
    let answers = subst (λ r. AnswersBatch r (batch_of (texts c.args.words.now))) c.in-Err-Usage.is c.parse_batch.ensures.answer in
    usage (subst (λ e. AnswersBatch (Err e) (batch_of (texts c.args.words.now))) c.in-Err-Usage.field-0-is answers)
