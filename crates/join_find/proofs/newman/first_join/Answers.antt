use Rattle.term_pool.specs.Pooled.{StandsFor, tree_at}
use Rattle.join_find.proofs.KeptOfSides.{narrow_too}
use Rattle.join_find.proofs.PairPlaces.{stands_too}
use Rattle.join_find.proofs.newman.first_join.Goals.{In_ok-right}
use Rattle.join_find.proofs.newman.first_join.Goals as goal

left_stands : (c : In_ok-right) → StandsFor c.intern-2.new.self.pool c.in_ok-left.left (tree_at c.args.from.now c.args.pair.left)
left_stands c = c.in_ok-right.ensures.kept.kept c.in_ok-left.left (tree_at c.args.from.now c.args.pair.left) c.in_ok-left.ensures.id

pub intern-requires-clause-ids : goal.intern-requires-clause-ids
intern-requires-clause-ids c = c.make_room.ensures.ids c.args.from.now c.requires.ids

pub first_join-requires-clause-left : goal.first_join-requires-clause-left
first_join-requires-clause-left c =
    narrow_too c.args.from.now c.intern-2.new.self.pool c.args.pair.left c.in_ok-left.left (left_stands (goal.at.first_join-requires-clause-left c).In_ok-right) c.requires.left

pub first_join-requires-clause-right : goal.first_join-requires-clause-right
first_join-requires-clause-right c =
    narrow_too c.args.from.now c.intern-2.new.self.pool c.args.pair.right c.in_ok-right.right c.in_ok-right.ensures.id c.requires.right

pub first_join-requires-clause-sides : goal.first_join-requires-clause-sides
first_join-requires-clause-sides c =
    let rules = c.args.by_root.now.rules in
    c.in_ok-right.ensures.sides rules (c.in_ok-left.ensures.sides rules (c.make_room.ensures.sides rules c.requires.sides))

pub returns-clause-join : goal.returns-clause-join
returns-clause-join c = λ peak is.
    let a = (goal.at.returns-clause-join c).In_ok-right in
    let from = c.args.from.now in
    let pool = c.intern-2.new.self.pool in
    c.first_join.ensures.join peak (stands_too from pool c.args.pair.left c.in_ok-left.left peak.left is.0 (left_stands a))
    (stands_too from pool c.args.pair.right c.in_ok-right.right peak.right is.1 c.in_ok-right.ensures.id)

pub returns-clause-ids : goal.returns-clause-ids
returns-clause-ids c = c.first_join.ensures.ids c.args.from.now c.in_ok-right.ensures.ids
