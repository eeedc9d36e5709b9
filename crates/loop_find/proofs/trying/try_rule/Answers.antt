use Rattle.std.proofs.Common.{◌+◌, arith, refl, subst}
use Rattle.trs_defs.specs.System.{RewriteRule}
use Rattle.trs_defs.proofs.ListItems.{item_there}
use Rattle.trs_core.specs.View.{tree}
use Rattle.loop_find.specs.Narrowed.{NarrowsNot}
use Rattle.loop_find.specs.declared.closures.Closures.{Closures}
use Rattle.loop_find.proofs.Tried.{spent_at_once, attempt_left_out, attempt_given}
use Rattle.loop_find.proofs.Extensions.{rule_read, nothing_given, trial_counted}
use Rattle.loop_find.proofs.trying.try_rule.Goals as goal

pub returns-then-closures-trial-clause-turn : goal.returns-then-closures-trial-clause-turn
returns-then-closures-trial-clause-turn g c = λ cl e.
    spent_at_once c.args.trial.now.trs.now.rules c.args.trial.now.budget _ c.args.closures.now c.requires.trial.within c.if-closures-trial.true

pub returns-then-is_refused-clause-turn : goal.returns-then-is_refused-clause-turn
returns-then-is_refused-clause-turn g c = λ cl e.
    let t = c.args.trial.now in
    let new : Closures = record { tokens = c.args.closures.now.tokens; links = c.args.closures.now.links; attempts = c.args.closures.now.attempts + 1; copies = c.args.closures.now.copies } in
    attempt_left_out t.trs.now.rules t.budget _ c.args.closures.now new refl refl (omega (arith, c.if-closures-trial.false))
    (nothing_given t c.args.closures.now c.requires.trial cl e c.args.place.now c.args.k (λ rule at.
    let same = rule_read t.trs.now.rules c.rules.result.now c.rules.ensures.rules c.args.k c.index-rules-k.result rule c.index-rules-k.is at in
    subst (λ (r : RewriteRule). NarrowsNot r c.args.place.now (tree t.left.now) (tree t.right.now)) same
    (c.if-is_refused.ensures refl c.args.place.now (tree t.left.now) (tree t.right.now) c.requires.trial.right_size c.requires.part.there c.requires.trial.left_fit.variables c.requires.trial.right_fit.variables)))

pub extend-requires-clause-narrowed : goal.extend-requires-clause-narrowed
extend-requires-clause-narrowed g c =
    let (rule, at) = item_there c.args.trial.now.trs.now.rules c.args.k c.requires.rule in
    (rule, at, (rw c.in-Some.is at c.in_ok-narrow_with.ensures.narrowed) rule at)

pub returns-in-None-clause-turn : goal.returns-in-None-clause-turn
returns-in-None-clause-turn g c = λ cl e.
    let new : Closures = record { tokens = c.args.closures.now.tokens; links = c.args.closures.now.links; attempts = c.args.closures.now.attempts + 1; copies = c.narrow_with.new.copies } in
    attempt_left_out c.args.trial.now.trs.now.rules c.args.trial.now.budget _ c.args.closures.now new refl refl (omega (arith, c.if-closures-trial.false))
    (nothing_given c.args.trial.now c.args.closures.now c.requires.trial cl e c.args.place.now c.args.k (rw c.in-None.is at c.in_ok-narrow_with.ensures.narrowed))

pub returns-in_ok-turn-in-Some-clause-turn : goal.returns-in_ok-turn-in-Some-clause-turn
returns-in_ok-turn-in-Some-clause-turn g c = λ cl e.
    let mid : Closures = record { tokens = c.args.closures.now.tokens; links = c.args.closures.now.links; attempts = c.args.closures.now.attempts + 1; copies = c.narrow_with.new.copies } in
    attempt_given c.args.trial.now.trs.now.rules c.args.trial.now.budget _ c.args.closures.now mid c.extend.new.closures refl refl (omega (arith, c.if-closures-trial.false)) _ c.in_ok-turn-in-Some.turn
    (c.in_ok-turn-in-Some.ensures.turn cl e)

pub returns-then-is_refused-clause-trial : goal.returns-then-is_refused-clause-trial
returns-then-is_refused-clause-trial g c =
    trial_counted c.args.trial.now c.args.closures.now c.requires.trial _ refl refl refl (omega (arith, c.if-closures-trial.false)) c.requires.trial.copies

pub extend-requires-clause-trial : goal.extend-requires-clause-trial
extend-requires-clause-trial g c =
    trial_counted c.args.trial.now c.args.closures.now c.requires.trial _ refl refl refl (omega (arith, c.if-closures-trial.false)) c.in_ok-narrow_with.ensures.copies

pub returns-in-None-clause-trial : goal.returns-in-None-clause-trial
returns-in-None-clause-trial g c =
    trial_counted c.args.trial.now c.args.closures.now c.requires.trial _ refl refl refl (omega (arith, c.if-closures-trial.false)) c.in_ok-narrow_with.ensures.copies
