use Rattle.std.proofs.Common.{sym, subst}
use Rattle.term_pool.specs.Pooled.{StandsFor, tree_at}
use Rattle.rewrite_core.specs.PathsOfJoin.{PathsOfJoin}
use Rattle.join_find.specs.StrongRow.{IsFirstHalf, none_from_right}
use Rattle.join_find.proofs.KeptOfSides.{narrow_too, narrow_still}
use Rattle.join_find.proofs.PairPlaces.{stands_too}
use Rattle.join_find.proofs.strong.first_four.Goals.{In_ok-right}
use Rattle.join_find.proofs.strong.first_four.Goals as goal

left_stands : (c : In_ok-right) → StandsFor c.intern-2.new.self.pool c.in_ok-left.left (tree_at c.args.from.now c.args.pair.left)
left_stands c = c.in_ok-right.ensures.kept.kept c.in_ok-left.left (tree_at c.args.from.now c.args.pair.left) c.in_ok-left.ensures.id

pub intern-requires-clause-ids : goal.intern-requires-clause-ids
intern-requires-clause-ids c = c.make_room.ensures.ids c.args.from.now c.requires.ids

pub first_half-requires-clause-from : goal.first_half-requires-clause-from
first_half-requires-clause-from c =
    narrow_too c.args.from.now c.intern-2.new.self.pool c.args.pair.left c.in_ok-left.left (left_stands (goal.at.first_half-requires-clause-from c).In_ok-right) c.requires.left

pub first_half-requires-clause-to : goal.first_half-requires-clause-to
first_half-requires-clause-to c =
    narrow_too c.args.from.now c.intern-2.new.self.pool c.args.pair.right c.in_ok-right.right c.in_ok-right.ensures.id c.requires.right

pub first_half-requires-clause-sides : goal.first_half-requires-clause-sides
first_half-requires-clause-sides c =
    let rules = c.args.by_root.now.rules in
    c.in_ok-right.ensures.sides rules (c.in_ok-left.ensures.sides rules (c.make_room.ensures.sides rules c.requires.sides))

pub first_half-requires-2-clause-from : goal.first_half-requires-2-clause-from
first_half-requires-2-clause-from c =
    narrow_still c.intern-2.new.self.pool c.first_half.new.self.pool c.in_ok-right.right c.in_ok-u.ensures.kept
    (narrow_too c.args.from.now c.intern-2.new.self.pool c.args.pair.right c.in_ok-right.right c.in_ok-right.ensures.id c.requires.right)

pub first_half-requires-2-clause-to : goal.first_half-requires-2-clause-to
first_half-requires-2-clause-to c =
    let a = (goal.at.first_half-requires-2-clause-to c).In_ok-right in
    narrow_still c.intern-2.new.self.pool c.first_half.new.self.pool c.in_ok-left.left c.in_ok-u.ensures.kept
    (narrow_too c.args.from.now c.intern-2.new.self.pool c.args.pair.left c.in_ok-left.left (left_stands a) c.requires.left)

pub returns-in_default-2-clause-four : goal.returns-in_default-2-clause-four
returns-in_default-2-clause-four c = λ peak is.
    let a = (goal.at.returns-in_default-2-clause-four c).In_ok-right in
    let from = c.args.from.now in
    let pool = c.intern-2.new.self.pool in
    let kept = c.in_ok-u.ensures.kept.kept in
    let left = kept c.in_ok-left.left peak.left (stands_too from pool c.args.pair.left c.in_ok-left.left peak.left is.0 (left_stands a)) in
    let right = kept c.in_ok-right.right peak.right (stands_too from pool c.args.pair.right c.in_ok-right.right peak.right is.1 c.in_ok-right.ensures.id) in
    none_from_right (rw c.in_default-2.is at (c.in_ok-v.ensures.half peak.right peak.left right left))

pub returns-clause-four : goal.returns-clause-four
returns-clause-four c = λ peak is.
    let a = (goal.at.returns-clause-four c).In_ok-right in
    let rules = c.args.by_root.now.rules in
    let from = c.args.from.now in
    let pool = c.intern-2.new.self.pool in
    let left = stands_too from pool c.args.pair.left c.in_ok-left.left peak.left is.0 (left_stands a) in
    let right = stands_too from pool c.args.pair.right c.in_ok-right.right peak.right is.1 c.in_ok-right.ensures.id in
    let L : PathsOfJoin → Type 0 = λ paths. IsFirstHalf rules peak.left peak.right paths in
    let R : PathsOfJoin → Type 0 = λ paths. IsFirstHalf rules peak.right peak.left paths in
    let kept = c.in_ok-u.ensures.kept.kept in
    let from_left : L c.in-Some.u = rw c.in-Some.is at (c.in_ok-u.ensures.half peak.left peak.right left right) in
    let from_right : R c.in-Some-2.v =
    rw c.in-Some-2.is at (c.in_ok-v.ensures.half peak.right peak.left (kept c.in_ok-right.right peak.right right) (kept c.in_ok-left.left peak.left left)) in
    record { from_left = subst L (sym c.u.view_is) from_left; from_right = subst R (sym c.v.view_is) from_right }

pub returns-clause-ids : goal.returns-clause-ids
returns-clause-ids c =
    let terms = c.args.from.now in
    c.in_ok-v.ensures.ids terms (c.in_ok-u.ensures.ids terms c.in_ok-right.ensures.ids)
