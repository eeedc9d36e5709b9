use Rattle.std.proofs.Common.{arith, refl, ◌∙◌}
use Rattle.loop_find.specs.Links.{IsSound}
use Rattle.loop_find.specs.Trials.{IsTrial}
use Rattle.loop_find.specs.declared.trying.Turn.TheVariants as turn
use Rattle.loop_find.proofs.LinkLists.{number_below}
use Rattle.loop_find.proofs.Extensions.{sides_fit, one_longer, trial_on, extended, placed}
use Rattle.loop_find.proofs.trying.extend.Goals.{After-loop_of}
use Rattle.loop_find.proofs.trying.extend.Goals as goal

pub add-requires-clause-sound : goal.add-requires-clause-sound
add-requires-clause-sound c = (c.args.trial.now.trs.now.arities, c.requires.trial.sound)

pub add-requires-clause-earlier : goal.add-requires-clause-earlier
add-requires-clause-earlier c = number_below c.args.closures.now c.args.trial.now.number c.requires.trial.there

sound_on : (c : After-loop_of) → IsSound c.args.trial.now.trs.now.arities c.add.new.self
sound_on c =
    let n = c.requires.narrowed in
    let fit = sides_fit c.args.trial.now c.args.closures.now c.requires.trial c.args.place.now c.args.k n.0 n.1 c.args.sides.now n.2 in
    c.in_ok-add.ensures.sound c.args.trial.now.trs.now.arities n.2.new_left n.2.new_right n.2.tokens c.requires.trial.sound fit.0 fit.1

pub loop_of-requires-clause-sound : goal.loop_of-requires-clause-sound
loop_of-requires-clause-sound c =
    let n = c.requires.narrowed in
    let fit = sides_fit c.args.trial.now c.args.closures.now c.requires.trial c.args.place.now c.args.k n.0 n.1 c.args.sides.now n.2 in
    c.in_ok-add.ensures.sound c.args.trial.now.trs.now.arities n.2.new_left n.2.new_right n.2.tokens c.requires.trial.sound fit.0 fit.1

pub loop_of-requires-clause-there : goal.loop_of-requires-clause-there
loop_of-requires-clause-there c =
    let n = c.requires.narrowed in
    let longer = one_longer c.args.trial.now c.args.closures.now c.requires.trial c.args.place.now c.args.k n.0 n.1 c.args.sides.now n.2 c.add.new.self _
    (placed _ _ c.args.k c.in_ok-at.ensures) (c.in_ok-add.ensures.added n.2.new_left n.2.new_right n.2.tokens) in
    omega (arith, longer, c.len-number.ensures, c.args.closures.now.links.ok.0)

pub returns-in-None-clause-turn : goal.returns-in-None-clause-turn
returns-in-None-clause-turn c = λ cl e.
    let n = c.requires.narrowed in
    extended c.args.trial.now c.args.closures.now c.requires.trial c.args.place.now c.args.k n.0 n.1 c.args.sides.now n.2 c.add.new.self _
    (placed _ _ c.args.k c.in_ok-at.ensures) (c.in_ok-add.ensures.added n.2.new_left n.2.new_right n.2.tokens) cl e c.len-number.result (c.len-number.ensures ∙ c.args.closures.now.links.ok.0)
    c.add.new.self refl c.in_ok-add.ensures.attempts turn.Next (rw c.in-None.is at c.in_ok-loop_of.ensures)

pub returns-in-Some-clause-turn : goal.returns-in-Some-clause-turn
returns-in-Some-clause-turn c = λ cl e.
    let n = c.requires.narrowed in
    extended c.args.trial.now c.args.closures.now c.requires.trial c.args.place.now c.args.k n.0 n.1 c.args.sides.now n.2 c.add.new.self _
    (placed _ _ c.args.k c.in_ok-at.ensures) (c.in_ok-add.ensures.added n.2.new_left n.2.new_right n.2.tokens) cl e c.len-number.result (c.len-number.ensures ∙ c.args.closures.now.links.ok.0)
    c.add.new.self refl c.in_ok-add.ensures.attempts (turn.Found c.in-Some.found) (rw c.in-Some.is at c.in_ok-loop_of.ensures)

on_again : (c : After-loop_of) → IsTrial c.args.trial.now c.add.new.self
on_again c =
    let n = c.requires.narrowed in
    trial_on c.args.trial.now c.args.closures.now c.requires.trial c.args.place.now c.args.k n.0 n.1 c.args.sides.now n.2 c.add.new.self _
    (placed _ _ c.args.k c.in_ok-at.ensures) (c.in_ok-add.ensures.added n.2.new_left n.2.new_right n.2.tokens) (sound_on c) c.in_ok-add.ensures.attempts c.in_ok-add.ensures.copies

pub returns-in-None-clause-trial : goal.returns-in-None-clause-trial
returns-in-None-clause-trial c = on_again (goal.at.returns-in-None-clause-trial c).After-loop_of

pub returns-in-Some-clause-trial : goal.returns-in-Some-clause-trial
returns-in-Some-clause-trial c = on_again (goal.at.returns-in-Some-clause-trial c).After-loop_of

pub loop_of-requires-clause-arities : goal.loop_of-requires-clause-arities
loop_of-requires-clause-arities c = c.requires.trial.arities
