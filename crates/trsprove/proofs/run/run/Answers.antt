use Rattle.command_line.specs.Request.{request_of}
use Rattle.program_edge.specs.Words.{texts}
use Rattle.trsprove.proofs.run.run.Goals as goal

pub returns : goal.returns
returns g c =
    let run = c.finish.ensures (request_of (texts c.args.words.now)) (g.S.Shelf.means c.args.shelf.now) (g.S.Shelf.means c.answer_with.new.shelf)
    c.answer_with.ensures in
    record {
      output = run.output;
      write = run.write;
      only = run.only;
      truth = run.truth;
      untouched = run.untouched;
      absent = run.absent;
      complete = run.complete;
      again = run.again;
    }
