use Rattle.std.proofs.Common.{◌≡◌, Some, None, rules, sym, subst}
use Rattle.command_line.specs.Request.{request_of, request_view}
use Rattle.program_edge.specs.Words.{texts}
use Rattle.trsprove.specs.Answered.{IsAnswered}
use Rattle.trsprove.proofs.Usage.{known_of_usage}
use Rattle.trsprove.proofs.several.answer_with.Goals as goal

pub returns-in-Ok : goal.returns-in-Ok
returns-in-Ok g c =
    let before = g.S.Shelf.means c.args.shelf.now in
    let now = g.S.Shelf.means c.answer_to_with.new.shelf in
    let asks : request_of (texts c.args.words.now) ≡ Some (request_view c.in-Ok.request) = c.in-Ok.ensures.answer in
    subst (λ r. IsAnswered r before now c.answer_to_with.result) (sym asks) c.answer_to_with.ensures

pub returns-in-Err-Usage : goal.returns-in-Err-Usage
returns-in-Err-Usage g c =
    let none : request_of (texts c.args.words.now) ≡ None = search rules in
    known_of_usage _ (g.S.Shelf.means c.args.shelf.now) none
