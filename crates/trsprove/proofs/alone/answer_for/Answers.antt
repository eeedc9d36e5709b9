use Rattle.std.proofs.Common.{◌≡◌, Some, None, rules, sym, subst, ap}
use Rattle.command_line.specs.Request.{request_of, request_view}
use Rattle.program_edge.specs.Words.{texts}
use Rattle.trsprove.specs.Answered.{IsAnswered}
use Rattle.trsprove.specs.Workers.{asked_of}
use Rattle.trsprove.proofs.Usage.{known_of_usage}
use Rattle.trsprove.proofs.alone.answer_for.Goals as goal

pub returns-in-Ok : goal.returns-in-Ok
returns-in-Ok g c =
    let before = g.S.Shelf.means c.args.shelf.now in
    let now = g.S.Shelf.means c.answer_to.new.shelf in
    let asks : request_of (texts c.args.words.now) ≡ Some (request_view c.in-Ok.request) = c.in-Ok.ensures.answer in
    subst (λ r. IsAnswered (asked_of 1 r) before now c.answer_to.result) (sym asks) c.answer_to.ensures

pub returns-in-Err-Usage : goal.returns-in-Err-Usage
returns-in-Err-Usage g c =
    let none : request_of (texts c.args.words.now) ≡ None = search rules in
    known_of_usage _ (g.S.Shelf.means c.args.shelf.now) (ap (asked_of 1) none)
