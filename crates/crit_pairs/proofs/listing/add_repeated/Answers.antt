use Rattle.std.proofs.Common.{◌≡◌, IfSome, false, slice_get, ap, subst}
use Rattle.std.proofs.lemmas.Result.{err_from_is_err_and}
use Rattle.crit_pairs.specs.Repeated.{AreRepeated, IsRepeated, IsLonger}
use Rattle.crit_pairs.proofs.RepeatedPeaks.{known_again, still_repeated}
use Rattle.crit_pairs.proofs.listing.add_repeated.Goals.{After-of, In_ok-added}
use Rattle.crit_pairs.proofs.listing.add_repeated.Goals as goal

-- the new list begins with the old one
longer : (g : _) (c : In_ok-added g) → c.in_ok-add_again.field-0 ≡ false → IsLonger c.args.peaks.now.list.items c.add_new.new.peaks.list.items
longer g c not_again =
    let same : c.add_again.new.peaks.list.items ≡ c.args.peaks.now.list.items = ap (λ peaks. peaks.list.items) (c.in_ok-add_again.ensures.same not_again) in
    subst (λ xs. IsLonger xs c.add_new.new.peaks.list.items) same c.in_ok-added.ensures.longer

-- what was known is known of the list as it grew
still_known : (g : _) (c : In_ok-added g) → c.in_ok-add_again.field-0 ≡ false → AreRepeated c.args.rules.now.rules c.args.j c.args.place.now c.add_new.new.peaks.list.items c.args.known.now.noted.items
still_known g c not_again =
    still_repeated c.args.rules.now.rules c.args.j c.args.place.now c.args.peaks.now.list.items _ c.args.known.now.noted.items (longer g c not_again) c.requires.known

-- what is known of the peak of an equal rule
known : (g : _) (c : After-of g) → IfSome c.of.result (IsRepeated c.args.rules.now.rules c.args.j c.args.place.now (slice_get c.args.rules.now.rules c.args.i) c.args.peaks.now.list.items)
known g c =
    known_again c.args.rules.now.rules c.args.i c.args.j c.args.place.now c.args.peaks.now.list.items c.args.known.now.noted.items c.equal_before-first.result c.of.result c.requires.known c.equal_before-first.ensures c.of.ensures

pub returns-in_err-add_again-clause-stops : goal.returns-in_err-add_again-clause-stops
returns-in_err-add_again-clause-stops g c =
    let p = err_from_is_err_and c.from_residual.result c.from_residual.ensures.1 in
    rw (p.1, p.2) (c.in_err-add_again.ensures.stops c.args.rules.now.rules c.args.j (known g (goal.at.returns-in_err-add_again-clause-stops g c).After-of))

pub returns-then-branch-clause-moves : goal.returns-then-branch-clause-moves
returns-then-branch-clause-moves g c =
    c.in_ok-add_again.ensures.moves c.if-branch.true c.args.rules.now.rules c.args.j (known g (goal.at.returns-then-branch-clause-moves g c).After-of)

pub returns-then-branch-clause-known : goal.returns-then-branch-clause-known
returns-then-branch-clause-known g c = still_repeated c.args.rules.now.rules c.args.j c.args.place.now c.args.peaks.now.list.items _ c.args.known.now.noted.items c.in_ok-add_again.ensures.longer c.requires.known

pub returns-in_default-clause-known : goal.returns-in_default-clause-known
returns-in_default-clause-known g c = still_known g (goal.at.returns-in_default-clause-known g c).In_ok-added (c.if-branch.false)

pub returns-clause-known : goal.returns-clause-known
returns-clause-known g c =
    c.in_ok-note.ensures c.args.rules.now.rules c.args.i c.args.j c.args.place.now _ (still_known g (goal.at.returns-clause-known g c).In_ok-added c.if-branch.false) c.equal_before-first.ensures
    (rw c.in-Some.is at c.in_ok-added.ensures.added)

pub returns-in_default-clause-longer : goal.returns-in_default-clause-longer
returns-in_default-clause-longer g c = longer g (goal.at.returns-in_default-clause-longer g c).In_ok-added c.if-branch.false

pub returns-clause-longer : goal.returns-clause-longer
returns-clause-longer g c = longer g (goal.at.returns-clause-longer g c).In_ok-added c.if-branch.false
