use Rattle.std.proofs.Common.{Some, sym, subst, ap}
use Rattle.command_line.specs.Request.{request_view}
use Rattle.trsprove.specs.Answered.{IsAnswered}
use Rattle.trsprove.proofs.SampleLines.{known_of_line}
use Rattle.trsprove.proofs.several.answer_to_with.Goals as goal

pub returns-in-Prove : goal.returns-in-Prove
returns-in-Prove g c =
    subst (λ r. IsAnswered (Some (request_view r)) (g.S.Shelf.means c.args.shelf.now) (g.S.Shelf.means c.ask_with.new.shelf) c.ask_with.result) (sym c.in-Prove.is)
    c.ask_with.ensures

pub returns-in-Sample : goal.returns-in-Sample
returns-in-Sample g c =
    let asked = c.in-Sample in
    known_of_line (Some (request_view c.args.request)) asked.size asked.workers asked.budget (g.S.Shelf.means c.args.shelf.now) c.sample_with.result
    (ap (λ r. Some (request_view r)) asked.is) c.sample_with.ensures.status c.sample_with.ensures.line
