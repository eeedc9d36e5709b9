use Rattle.std.specs.Prelude.{take, drop, length}
use Rattle.std.proofs.Common.{◌-◌, refl}
use Rattle.std.proofs.lemmas.List.{drop_all}
use Rattle.std.proofs.lemmas.Option.{slice_get_read}
use Rattle.closed_pairs.specs.LeftOf.{IsLeftOf}
use Rattle.closed_pairs.proofs.Leftward.{at_start, at_end, goes_on_right, no_parallel_step}
use Rattle.closed_pairs.proofs.parallel.is_parallel.Goals as goal

pub returns-then-not-is_left_of : goal.returns-then-not-is_left_of
returns-then-not-is_left_of c =
    let rest = take (length c.args.path.now - 1) (drop 1 c.args.path.now) in
    let at = slice_get_read rest (length rest) c.loop-step.step-index c.step-item.result refl c.loop-step-test.true c.step-item.is in
    let none : IsLeftOf c.loop-step.previous.now.place c.step-item.result.place → ⊥ = λ h.
    let wrong = c.is_left_of.ensures.1 (rw (c.places.ensures.places, c.places-in-loop-step.ensures.places) (rw (← c.previous.view_is, ← c.step.view_is) at h)) in
    let other = c.if-not-is_left_of.true in absurd cc in
    (λ e. absurd cc, λ h. absurd (no_parallel_step c.args.path.now rest c.loop-step.previous.now c.step-item.result c.loop-step.step-index c.loop-step.invariant at none h))

pub loop-step-init : goal.loop-step-init
loop-step-init c = at_start c.args.path.now c.first-item.result c.in-len1-up.len_at_least c.first-item.is

pub loop-step-preserved : goal.loop-step-preserved
loop-step-preserved c =
    let rest = take (length c.args.path.now - 1) (drop 1 c.args.path.now) in
    let at = slice_get_read rest (length rest) c.loop-step.step-index c.step-item.result refl c.loop-step-test.true c.step-item.is in
    let left : IsLeftOf c.loop-step.previous.now.place c.step-item.result.place = rw (← c.previous.view_is, ← c.step.view_is)
    (rw (c.places.ensures.places, c.places-in-loop-step.ensures.places) at (c.is_left_of.ensures.0 (cc (c.if-not-is_left_of.false)))) in
    goes_on_right c.args.path.now rest c.loop-step.previous.now c.step-item.result c.loop-step.step-index c.loop-step.invariant at left

pub returns : goal.returns
returns c =
    let rest = take (length c.args.path.now - 1) (drop 1 c.args.path.now) in
    let parallel = at_end c.args.path.now rest c.loop-step.previous.now c.loop-step.previous.now c.loop-step.step-index c.loop-step.invariant (drop_all c.loop-step.step-index rest c.loop-step-test.false) in
    (λ _. parallel, λ _. refl)
