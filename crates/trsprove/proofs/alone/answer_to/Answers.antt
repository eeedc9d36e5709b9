use Rattle.std.proofs.Common.{Some, sym, subst, ap}
use Rattle.command_line.specs.Request.{request_view}
use Rattle.trsprove.specs.Answered.{IsAnswered}
use Rattle.trsprove.specs.Workers.{asked_of}
use Rattle.trsprove.proofs.SampleLines.{known_of_line}
use Rattle.trsprove.proofs.alone.answer_to.Goals as goal

pub returns-in-Certify : goal.returns-in-Certify
returns-in-Certify g c =
    subst (λ r. IsAnswered (asked_of 1 (Some (request_view r))) (g.S.Shelf.means c.args.shelf.now) (g.S.Shelf.means c.certify.new.shelf) c.certify.result) (sym c.in-Certify.is)
    c.certify.ensures

pub returns-in-Prove : goal.returns-in-Prove
returns-in-Prove g c =
    subst (λ r. IsAnswered (asked_of 1 (Some (request_view r))) (g.S.Shelf.means c.args.shelf.now) (g.S.Shelf.means c.ask.new.shelf) c.ask.result) (sym c.in-Prove.is)
    c.ask.ensures

pub returns-in-Complete : goal.returns-in-Complete
returns-in-Complete g c =
    subst (λ r. IsAnswered (asked_of 1 (Some (request_view r))) (g.S.Shelf.means c.args.shelf.now) (g.S.Shelf.means c.complete.new.shelf) c.complete.result) (sym c.in-Complete.is)
    c.complete.ensures

pub returns-in-Sample : goal.returns-in-Sample
returns-in-Sample g c =
    known_of_line (asked_of 1 (Some (request_view c.args.request))) c.in-Sample.size 1 c.in-Sample.budget (g.S.Shelf.means c.args.shelf.now) c.sample.result
    (ap (λ r. asked_of 1 (Some (request_view r))) c.in-Sample.is) c.sample.ensures.status c.sample.ensures.line
