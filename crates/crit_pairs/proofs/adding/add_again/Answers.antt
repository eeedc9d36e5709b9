use Rattle.std.proofs.Common.{◌≡◌, List, Some, length, slice_get, refl, sym, ap, ◌∙◌, subst}
use Rattle.std.proofs.lemmas.Result.{err_from_is_err_and}
use Rattle.std.proofs.lemmas.Option.{slice_get_read}
use Rattle.rewrite_core.specs.PlacedPeak.{PlacedPeak}
use Rattle.crit_pairs.proofs.Keeping.{held_still}
use Rattle.crit_pairs.proofs.RepeatedPeaks.{counts_again, lists_again, too_many_again, is_full}
use Rattle.crit_pairs.proofs.adding.add_again.Goals.{In-Some-get}
use Rattle.crit_pairs.proofs.adding.add_again.Goals as goal

pub returns-then-not-has_room-clause-moves : goal.returns-then-not-has_room-clause-moves
returns-then-not-has_room-clause-moves g c = λ yes rules j h.
    counts_again rules c.args.inner j c.args.place.now c.args.peaks.now c.in-Some.known (rw c.in-Some.is at h) _ c.in_ok-count_one.ensures.counted (is_full _ _ _ c.has_room.ensures c.if-not-has_room.true)

-- the peak that is copied
there : (g : _) (c : In-Some-get g) → slice_get c.args.peaks.now.list.items c.in-Some-number.number ≡ Some c.in-Some-get.peak.now
there g c =
    let list = c.deref.result.now in
    let number = c.in-Some-number.number in
    let peak = c.in-Some-get.peak.now in
    let N : List PlacedPeak → Type 0 = λ xs. slice_get xs number ≡ Some peak in
    subst N c.deref.ensures.value (slice_get_read list (length list) number peak refl c.in-Some-get.ensures.lookup.3.0 c.in-Some-get.ensures.lookup.1)

pub same_sides-requires : goal.same_sides-requires
same_sides-requires g c =
    let (rules, held) = c.requires.held in
    let read = there g (goal.at.same_sides-requires g c).In-Some-get in
    let left = sym (ap (λ (p : PlacedPeak). p.left) c.peak.view_is) in
    let right = sym (ap (λ (p : PlacedPeak). p.right) c.peak.view_is) in
    λ κs. ((refl, tt), (rules, c.args.peaks.now.list.items, c.in-Some-get.peak.now, held, read, left, right))

pub returns-clause-moves : goal.returns-clause-moves
returns-clause-moves g c = λ yes rules j h.
    let number = c.in-Some-number.number in
    let read = there g (goal.at.returns-clause-moves g c).In-Some-get in
    lists_again rules c.args.inner j c.args.place.now c.args.peaks.now c.in-Some.known (rw c.in-Some.is at h) number _ _ _ _ _ c.in-Some-number.is (read ∙ ap (λ y. Some y) (sym c.peak.view_is))
    c.in_ok-position_of.ensures (rw c.in-Some-2.is at c.in_ok-top.ensures) c.in_ok-left.ensures.left c.in_ok-left.ensures.right _ _ _ c.in_ok-push_peak.ensures c.in_ok-count_one-2.ensures.counted
    (c.has_room.ensures.0 c.if-not-has_room.false)

pub returns-clause-longer : goal.returns-clause-longer
returns-clause-longer g c = (_, ap (λ v. v.items) c.in_ok-count_one-2.ensures.counted.same_list ∙ c.in_ok-push_peak.ensures)

pub returns-then-not-has_room-clause-held : goal.returns-then-not-has_room-clause-held
returns-then-not-has_room-clause-held g c = λ rules held.
    let one = c.in_ok-count_one.ensures.counted in
    held_still g.T.PeakTop.holds rules _ _ _ _ one.same_terms (ap (λ v. v.items) one.same_list) held

pub returns-clause-held : goal.returns-clause-held
returns-clause-held g c = λ rules held.
    let one = c.in_ok-count_one-2.ensures.counted in
    held_still g.T.PeakTop.holds rules _ _ _ _ one.same_terms (ap (λ v. v.items) one.same_list ∙ c.in_ok-push_peak.ensures)
    (c.in_ok-left.ensures.held rules c.args.peaks.now.list.items _ held refl refl)

pub returns-in_err-count_one-clause-stops : goal.returns-in_err-count_one-clause-stops
returns-in_err-count_one-clause-stops g c =
    let p = err_from_is_err_and c.from_residual.result c.from_residual.ensures.1 in
    rw (p.1, p.2) (λ rules j h.
    too_many_again rules c.args.inner j c.args.place.now c.args.peaks.now c.in-Some.known (rw c.in-Some.is at h) _ c.in_err-count_one.ensures.many.0 c.in_err-count_one.ensures.many.1)

pub returns-in_err-count_one-2-clause-stops : goal.returns-in_err-count_one-2-clause-stops
returns-in_err-count_one-2-clause-stops g c =
    let p = err_from_is_err_and c.from_residual-in_err-count_one-2.result c.from_residual-in_err-count_one-2.ensures.1 in
    rw (p.1, p.2) (λ rules j h.
    too_many_again rules c.args.inner j c.args.place.now c.args.peaks.now c.in-Some.known (rw c.in-Some.is at h) _ c.in_err-count_one-2.ensures.many.0 c.in_err-count_one-2.ensures.many.1)
