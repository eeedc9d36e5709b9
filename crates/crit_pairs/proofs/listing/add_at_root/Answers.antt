use Rattle.std.proofs.Common.{◌≡◌, IfSome, false, slice_get, refl, ap, subst}
use Rattle.std.proofs.lemmas.Result.{err_from_is_err_and}
use Rattle.crit_pairs.specs.EqualLefts.{left_side}
use Rattle.crit_pairs.specs.Repeated.{IsLonger}
use Rattle.crit_pairs.specs.RepeatedTops.{AreTops, IsTopAt}
use Rattle.crit_pairs.proofs.RepeatedTops.{known_top, still_tops}
use Rattle.crit_pairs.proofs.SpotWalk.{rule_at}
use Rattle.crit_pairs.proofs.listing.add_at_root.Goals.{After-of, In_ok-added}
use Rattle.crit_pairs.proofs.listing.add_at_root.Goals as goal

-- the new list begins with the old one
longer : (g : _) (c : In_ok-added g) → c.in_ok-add_beside.field-0 ≡ false → IsLonger c.args.peaks.now.list.items c.add_new.new.peaks.list.items
longer g c not_beside =
    let same : c.add_beside.new.peaks.list.items ≡ c.args.peaks.now.list.items = ap (λ peaks. peaks.list.items) (c.in_ok-add_beside.ensures.same not_beside) in
    subst (λ xs. IsLonger xs c.add_new.new.peaks.list.items) same c.in_ok-added.ensures.longer

still_known : (g : _) (c : In_ok-added g) → c.in_ok-add_beside.field-0 ≡ false → AreTops c.args.rules.now.rules c.args.j c.args.place.now c.add_new.new.peaks.list.items c.args.tops.now.noted.items
still_known g c not_beside =
    still_tops c.args.rules.now.rules c.args.j c.args.place.now c.args.peaks.now.list.items _ c.args.tops.now.noted.items (longer g c not_beside) c.requires.tops

-- what is known of the top of a rule with the same left side
known : (g : _) (c : After-of g)
    → IfSome c.of.result (IsTopAt c.args.rules.now.rules c.args.j c.args.place.now (left_side (slice_get c.args.rules.now.rules c.args.i)) c.args.peaks.now.list.items)
known g c =
    known_top c.args.rules.now.rules c.args.i c.args.j c.args.place.now c.args.peaks.now.list.items c.args.tops.now.noted.items c.left_before-first.result c.of.result c.requires.tops c.left_before-first.ensures c.of.ensures

pub add_beside-requires : goal.add_beside-requires
add_beside-requires g c =
    let (r, numbered) = rule_at c.args.rules.now.rules c.args.i c.requires.inner in
    λ κs. ((refl, tt), (c.requires.root, (c.args.rules.now.rules, r, c.requires.held, numbered, c.requires.side r numbered)))

pub returns-in_err-add_beside-clause-stops : goal.returns-in_err-add_beside-clause-stops
returns-in_err-add_beside-clause-stops g c =
    let p = err_from_is_err_and c.from_residual.result c.from_residual.ensures.1 in
    rw (p.1, p.2) (c.in_err-add_beside.ensures.stops c.args.rules.now.rules c.args.j c.requires.side (known g (goal.at.returns-in_err-add_beside-clause-stops g c).After-of))

pub returns-then-branch-clause-moves : goal.returns-then-branch-clause-moves
returns-then-branch-clause-moves g c =
    c.in_ok-add_beside.ensures.moves c.if-branch.true c.args.rules.now.rules c.args.j c.requires.side (known g (goal.at.returns-then-branch-clause-moves g c).After-of)

pub returns-then-branch-clause-tops : goal.returns-then-branch-clause-tops
returns-then-branch-clause-tops g c = still_tops c.args.rules.now.rules c.args.j c.args.place.now c.args.peaks.now.list.items _ c.args.tops.now.noted.items c.in_ok-add_beside.ensures.longer c.requires.tops

pub returns-in_default-clause-tops : goal.returns-in_default-clause-tops
returns-in_default-clause-tops g c = still_known g (goal.at.returns-in_default-clause-tops g c).In_ok-added (c.if-branch.false)

pub returns-clause-tops : goal.returns-clause-tops
returns-clause-tops g c =
    c.in_ok-note.ensures c.args.rules.now.rules c.args.i c.args.j c.args.place.now _ (still_known g (goal.at.returns-clause-tops g c).In_ok-added c.if-branch.false) c.left_before-first.ensures
    c.requires.root c.requires.side (rw c.in-Some.is at c.in_ok-added.ensures.added)

pub returns-in_default-clause-longer : goal.returns-in_default-clause-longer
returns-in_default-clause-longer g c = longer g (goal.at.returns-in_default-clause-longer g c).In_ok-added c.if-branch.false

pub returns-clause-longer : goal.returns-clause-longer
returns-clause-longer g c = longer g (goal.at.returns-clause-longer g c).In_ok-added c.if-branch.false
