use Rattle.std.proofs.Common.{sym, subst}
use Rattle.trsprove.specs.Answers.{status_of, text_of}
use Rattle.trsprove.specs.Answered.{IsAnswered}
use Rattle.trsprove.specs.Run.{IsRun}
use Rattle.trsprove.proofs.Running.{whole_run, front_run, no_run}
use Rattle.trsprove.proofs.run.finish.Goals as goal

pub returns-in-Ok-put_answer : goal.returns-in-Ok-put_answer
returns-in-Ok-put_answer g c = λ request before now known.
    let taken = g.K.Sink.means c.args.out.now in
    let later = g.K.Sink.means c.put_answer.new.out in
    let a = c.in-Ok.answer in
    let is = subst (IsAnswered request before now) c.in-Ok.is known in
    subst (λ s. IsRun request before now s taken later) (sym c.status.ensures)
    (whole_run request before now taken later (status_of a) (text_of a) is.answer is.only is.untouched is.again c.in-Ok-put_answer.ensures.puts c.in-Ok-put_answer.ensures.lines)

pub returns : goal.returns
returns g c = λ request before now known.
    let a = c.in-Ok.answer in
    let is = subst (IsAnswered request before now) c.in-Ok.is known in
    front_run request before now (g.K.Sink.means c.args.out.now) (g.K.Sink.means c.put_answer.new.out) (status_of a) (text_of a) is.answer is.untouched is.again
    c.in-Err.ensures.puts c.in-Err.ensures.lines

pub returns-in_default : goal.returns-in_default
returns-in_default g c = λ request before now known. no_run request before now (g.K.Sink.means c.args.out.now) known.untouched known.again
