use Rattle.std.proofs.Common.{All, List, sym, subst}
use Rattle.term_pool.specs.Pooled.{Extends, tree_at}
use Rattle.term_pool.proofs.Extending.{extends_on}
use Rattle.join_find.specs.CommonIds.{Reached}
use Rattle.join_find.specs.ReachedSides.{IsNarrowAt}
use Rattle.join_find.proofs.KeptOfSides.{narrow_at}
use Rattle.conf_find.specs.Marks.{AreMarkedIds}
use Rattle.term_pool.proofs.CrossingLaws.{known_ids_on}
use Rattle.term_pool.proofs.KnownLaws.{known_on}
use Rattle.conf_find.proofs.KeptReach.{reached_still, one_more_reached, marks_still, one_more_marked}
use Rattle.conf_find.proofs.reached_sides.ReachedSides.list.Goals.{In_ok-list}
use Rattle.conf_find.proofs.reached_sides.ReachedSides.list.Goals as goal

pub take_over-requires-clause-known : goal.take_over-requires-clause-known
take_over-requires-clause-known g c = c.requires.sides.ids

pub returns-then-has-clause-sides : goal.returns-then-has-clause-sides
returns-then-has-clause-sides g c =
    reached_still c.args.by_root.now.rules c.args.from.now c.args.self.now c.requires.sides c.take_over.new.self c.take_over.new.known c.in_ok-id.ensures.known c.in_ok-id.ensures.kept

pub returns-then-has-clause-marks : goal.returns-then-has-clause-marks
returns-then-has-clause-marks g c =
    marks_still g.M.Marks.has_mark g.M.Marks.of_pool c.args.by_root.now.rules c.args.self.now c.args.marks.now c.requires.marks c.take_over.new.self c.take_over.new.known c.last.ensures c.in_ok-id.ensures.kept

pub reach-requires : goal.reach-requires
reach-requires g c = record {
  narrow = narrow_at c.take_over.new.self c.in_ok-id.id (tree_at c.args.from.now c.args.side) c.in_ok-id.ensures.id c.requires.side;
  known = known_on c.args.by_root.now.rules c.args.self.now.pool c.take_over.new.self c.args.self.now.known c.in_ok-id.ensures.kept c.requires.sides.known;
}

pub mark_all-requires-clause-narrow : goal.mark_all-requires-clause-narrow
mark_all-requires-clause-narrow g c =
    let P : List Reached → Type 0 = λ es. All (λ (e : Reached). IsNarrowAt c.reach.new.pool e.0) es in
    subst P (sym c.deref.ensures.value) c.in_ok-list.ensures.narrow

-- the pool has grown twice
grown : (g : _) (c : In_ok-list g) → Extends c.args.self.now.pool c.reach.new.pool
grown g c = extends_on c.args.self.now.pool c.take_over.new.self c.reach.new.pool c.in_ok-id.ensures.kept c.in_ok-list.ensures.kept

pub mark_all-requires-clause-marks : goal.mark_all-requires-clause-marks
mark_all-requires-clause-marks g c =
    c.last.ensures c.args.by_root.now.rules c.args.self.now.pool c.reach.new.pool c.args.marks.now (grown g (goal.at.mark_all-requires-clause-marks g c).In_ok-list) c.requires.marks.are

pub returns-clause-id : goal.returns-clause-id
returns-clause-id g c = c.in_ok-list.ensures.kept.kept c.in_ok-id.id (tree_at c.args.from.now c.args.side) c.in_ok-id.ensures.id

pub returns-clause-sides : goal.returns-clause-sides
returns-clause-sides g c =
    let ids = known_ids_on c.args.from.now c.take_over.new.self c.reach.new.pool c.take_over.new.known c.in_ok-list.ensures.kept c.in_ok-id.ensures.known in
    one_more_reached c.args.by_root.now.rules c.args.from.now c.args.self.now c.requires.sides c.reach.new.pool c.take_over.new.known ids (grown g (goal.at.returns-clause-sides g c).In_ok-list)
    c.reach.new.known c.put.new.self c.take_over.new.self c.in_ok-id.id c.in_ok-list.list.items (tree_at c.args.from.now c.args.side) c.in_ok-put.ensures c.in_ok-list.ensures.kept c.in_ok-id.ensures.id
    c.in_ok-list.ensures.list c.in_ok-list.ensures.there c.in_ok-list.ensures.known

pub returns-clause-marks : goal.returns-clause-marks
returns-clause-marks g c =
    let M : List Reached → Type 0 = λ es. AreMarkedIds g.M.Marks.has_mark c.mark_all.new.marks es in
    one_more_marked g.M.Marks.has_mark g.M.Marks.of_pool c.args.by_root.now.rules c.args.self.now c.args.marks.now c.requires.marks c.reach.new.pool c.take_over.new.known c.reach.new.known c.mark_all.new.marks c.put.new.self
    c.in_ok-id.id c.in_ok-list.list.items c.in_ok-mark_all.ensures.still c.in_ok-mark_all.ensures.marks c.in_ok-put.ensures (subst M c.deref.ensures.value c.in_ok-mark_all.ensures.marked)

pub returns-clause-kept : goal.returns-clause-kept
returns-clause-kept g c = grown g (goal.at.returns-clause-kept g c).In_ok-list
