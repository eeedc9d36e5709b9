use Rattle.std.proofs.Common.{ap, sym, subst}
use Rattle.command_line.proofs.Refusing.{nothing_asked}
use Rattle.trsbatch.specs.Words.{asked_of_list}
use Rattle.trsbatch.specs.Run.{IsRun, batch_given}
use Rattle.trsbatch.proofs.arguments.status_for.Goals as goal

pub returns-in-Err-2 : goal.returns-in-Err-2
returns-in-Err-2 g c =
    subst (λ r. IsRun (batch_given r) (g.S.Shelf.means c.args.shelf.now) (g.S.Shelf.means c.batch_alone.new.shelf) c.batch_alone.result (g.K.Sink.means c.args.out.now) (g.K.Sink.means c.batch_alone.new.out)) (sym c.in-Err-2.is)
    (subst (λ r. IsRun r (g.S.Shelf.means c.args.shelf.now) (g.S.Shelf.means c.batch_alone.new.shelf) c.batch_alone.result (g.K.Sink.means c.args.out.now) (g.K.Sink.means c.batch_alone.new.out)) (ap asked_of_list nothing_asked)
    (record {
      output = c.batch_alone.ensures.output;
      write = c.batch_alone.ensures.write;
      only = c.batch_alone.ensures.only;
      untouched = c.batch_alone.ensures.untouched;
      again = c.batch_alone.ensures.again;
    }))
