use Rattle.std.proofs.Common.{Some}
use Rattle.trsbatch.specs.Words.{batch_view}
use Rattle.trsbatch.specs.Answers.{status_of, text_of}
use Rattle.trsbatch.proofs.Running.{answered_run}
use Rattle.trsbatch.proofs.run.run_beside.Goals as goal

pub returns : goal.returns
returns g c =
    answered_run (Some (batch_view c.args.batch.now)) (g.S.Shelf.means c.args.shelf.now) (g.S.Shelf.means c.batch_answered_beside.new.shelf)
    (g.K.Sink.means c.args.out.now) (g.K.Sink.means c.write_answer.new.out) (status_of c.in-Ok.answer) (text_of c.in-Ok.answer) c.write_answer.result
    c.in-Ok.ensures.answer c.in-Ok.ensures.again c.in-Ok.ensures.untouched c.write_answer.ensures.written c.write_answer.ensures.counts
