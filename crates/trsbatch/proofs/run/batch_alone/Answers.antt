use Rattle.trsbatch.specs.Words.{batch_of}
use Rattle.program_edge.specs.Words.{texts}
use Rattle.trsbatch.specs.Answers.{status_of, text_of}
use Rattle.trsbatch.specs.Run.{IsRun}
use Rattle.trsbatch.proofs.Running.{answered_run}
use Rattle.trsbatch.proofs.run.batch_alone.Goals as goal

pub returns-clause-output : goal.returns-clause-output
returns-clause-output g c =
    let run = answered_run (batch_of (texts c.args.words.now)) (g.S.Shelf.means c.args.shelf.now) (g.S.Shelf.means c.answer_alone.new.shelf)
    (g.K.Sink.means c.args.out.now) (g.K.Sink.means c.write_answer.new.out) (status_of c.in-Ok.answer) (text_of c.in-Ok.answer) c.write_answer.result
    c.in-Ok.ensures.answer c.in-Ok.ensures.again c.in-Ok.ensures.untouched c.write_answer.ensures.written c.write_answer.ensures.counts in
    run.output

pub returns-clause-only : goal.returns-clause-only
returns-clause-only g c =
    let run = answered_run (batch_of (texts c.args.words.now)) (g.S.Shelf.means c.args.shelf.now) (g.S.Shelf.means c.answer_alone.new.shelf)
    (g.K.Sink.means c.args.out.now) (g.K.Sink.means c.write_answer.new.out) (status_of c.in-Ok.answer) (text_of c.in-Ok.answer) c.write_answer.result
    c.in-Ok.ensures.answer c.in-Ok.ensures.again c.in-Ok.ensures.untouched c.write_answer.ensures.written c.write_answer.ensures.counts in
    run.only
