use Rattle.std.proofs.Common.{sym, subst}
use Rattle.trsbatch.specs.Answers.{status_of, text_of, IsWritten, whole, part}
use Rattle.trsbatch.proofs.report.write_answer.Goals as goal

pub returns-in-Ok-clause-written : goal.returns-in-Ok-clause-written
returns-in-Ok-clause-written g c =
    subst (IsWritten (status_of c.args.answer.now) (text_of c.args.answer.now) (g.K.Sink.means c.args.out.now) (g.K.Sink.means c.put_answer.new.out)) (sym c.status.ensures)
    (whole c.in-Ok.ensures.puts.0 c.in-Ok.ensures.lines)

pub returns-in-Err-clause-written : goal.returns-in-Err-clause-written
returns-in-Err-clause-written g c = part c.in-Err.ensures.puts.0 c.in-Err.ensures.puts.1 c.in-Err.ensures.lines
