use Rattle.std.proofs.Common.{sym, subst}
use Rattle.command_line.proofs.Refusing.{nothing_asked}
use Rattle.trsprove.specs.Run.{IsRun, request_given}
use Rattle.trsprove.proofs.arguments.status_for.Goals as goal

pub returns-in-Err-2 : goal.returns-in-Err-2
returns-in-Err-2 g c =
    subst (λ r. IsRun (request_given r) (g.S.Shelf.means c.args.shelf.now) (g.S.Shelf.means c.run.new.shelf) c.run.result (g.K.Sink.means c.args.out.now) (g.K.Sink.means c.run.new.out)) (sym c.in-Err-2.is)
    (subst (λ r. IsRun r (g.S.Shelf.means c.args.shelf.now) (g.S.Shelf.means c.run.new.shelf) c.run.result (g.K.Sink.means c.args.out.now) (g.K.Sink.means c.run.new.out)) nothing_asked
    (record {
      output = c.run.ensures.output;
      write = c.run.ensures.write;
      only = c.run.ensures.only;
      truth = c.run.ensures.truth;
      untouched = c.run.ensures.untouched;
      absent = c.run.ensures.absent;
      complete = c.run.ensures.complete;
      again = c.run.ensures.again;
    }))
