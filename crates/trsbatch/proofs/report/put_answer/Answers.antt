use Rattle.std.proofs.Common.{sym, subst}
use Rattle.program_edge.specs.Puts.{Puts}
use Rattle.trsbatch.specs.Answers.{text_of}
use Rattle.trsbatch.proofs.report.put_answer.Goals as goal

pub returns-in-Usage-clause-puts : goal.returns-in-Usage-clause-puts
returns-in-Usage-clause-puts g c =
    subst (λ a. Puts c.put_one.result (g.K.Sink.means c.args.out.now) (text_of a) (g.K.Sink.means c.put_one.new.out)) (sym c.in-Usage.is) c.put_one.ensures.puts
