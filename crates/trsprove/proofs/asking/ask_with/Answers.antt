use Rattle.std.proofs.Common.{ap, Err, subst, IfOk}
use Rattle.program_edge.specs.Conclusions.{IsConclusion}
use Rattle.trsprove.specs.Answers.{status_of, text_of}
use Rattle.trsprove.proofs.Questions.{known_of_text, known_of_fault}
use Rattle.trsprove.proofs.asking.ask_with.Goals as goal

pub returns-in-Ok : goal.returns-in-Ok
returns-in-Ok g c =
    known_of_text c.args.question c.args.problem.now c.args.workers c.args.budget (g.S.Shelf.means c.args.shelf.now) (g.S.Shelf.means c.fetch.new.self) c.ask_about_with.result
    c.fetch.ensures.told c.fetch.ensures.faults c.fetch.ensures.read c.in-Ok.text.items c.in-Ok.ensures.whole c.in-Ok.ensures.bound
    (subst (λ z. IfOk c.ask_about_with.result (λ a. IsConclusion z c.args.question c.args.workers c.args.budget (status_of a) (text_of a))) c.deref.ensures.value c.ask_about_with.ensures)

pub returns-in-Err : goal.returns-in-Err
returns-in-Err g c =
    known_of_fault c.args.question c.args.problem.now c.args.workers c.args.budget (g.S.Shelf.means c.args.shelf.now) (g.S.Shelf.means c.fetch.new.self) c.not_fetched.result
    c.fetch.ensures.told c.fetch.ensures.faults c.fetch.ensures.read c.in-Err.fault c.in-Err.ensures.counted (λ e. c.in-Err.ensures.too_long (ap Err e))
    (λ e. c.in-Err.ensures.long (ap Err e)) c.not_fetched.ensures
