use Rattle.std.proofs.Common.{◌<◌, All, List, length, refl, sym, subst}
use Rattle.trs_defs.specs.Tree.{Tree}
use Rattle.term_pool.specs.ListedIds.{listed_at}
use Rattle.term_pool.proofs.PoolTrees.{stands_within}
use Rattle.join_find.specs.CommonIds.{Reached}
use Rattle.join_find.proofs.KeptOfSides.{always_ok}
use Rattle.conf_find.specs.ForkRows.{IsShortReach}
use Rattle.conf_find.proofs.ForkPeaks.{of_peak}
use Rattle.conf_find.proofs.KeptReach.{reach_from, ends_below}
use Rattle.join_find.proofs.PairPlaces.{side_at, stands_too}
use Rattle.conf_find.proofs.first_fork.fork_at.Goals as goal

pub list-requires-clause-there : goal.list-requires-clause-there
list-requires-clause-there g c = stands_within c.args.from.now c.args.pair.left c.args.peak.now.left c.requires.pair.0

pub list-requires-clause-side : goal.list-requires-clause-side
list-requires-clause-side g c = (side_at c.args.from.now c.args.pair.left c.args.peak.now.left c.requires.pair.0 c.requires.peak.left).side

pub list-requires-2-clause-there : goal.list-requires-2-clause-there
list-requires-2-clause-there g c = stands_within c.args.from.now c.args.pair.right c.args.peak.now.right c.requires.pair.1

pub list-requires-2-clause-side : goal.list-requires-2-clause-side
list-requires-2-clause-side g c = (side_at c.args.from.now c.args.pair.right c.args.peak.now.right c.requires.pair.1 c.requires.peak.right).side

pub list-requires-clause-sides : goal.list-requires-clause-sides
list-requires-clause-sides g c = c.make_room.ensures.sides c.args.by_root.now.rules c.args.from.now c.requires.sides

pub list-requires-clause-marks : goal.list-requires-clause-marks
list-requires-clause-marks g c = c.make_room.ensures.marks c.args.by_root.now.rules c.requires.marks

pub fork_between-requires-clause-lefts : goal.fork_between-requires-clause-lefts
fork_between-requires-clause-lefts g c =
    let P : List Tree → Type 0 = λ pool. All (λ (e : Reached). e.0 < length pool) c.at-lefts.result.now in
    subst P (sym c.pool.ensures.is) (ends_below c.args.by_root.now.rules c.args.from.now c.list-2.new.self c.in_ok-right.ensures.sides c.in_ok-left.left c.at-lefts.result.now c.at-lefts.ensures)

pub fork_between-requires-clause-rights : goal.fork_between-requires-clause-rights
fork_between-requires-clause-rights g c =
    let P : List Tree → Type 0 = λ pool. All (λ (e : Reached). e.0 < length pool) c.at-rights.result.now in
    subst P (sym c.pool.ensures.is) (ends_below c.args.by_root.now.rules c.args.from.now c.list-2.new.self c.in_ok-right.ensures.sides c.in_ok-right.right c.at-rights.result.now c.at-rights.ensures)

pub fork_between-requires-clause-marked_lefts : goal.fork_between-requires-clause-marked_lefts
fork_between-requires-clause-marked_lefts g c = c.in_ok-right.ensures.marks.each c.in_ok-left.left c.at-lefts.result.now c.at-lefts.ensures

pub fork_between-requires-clause-marked_rights : goal.fork_between-requires-clause-marked_rights
fork_between-requires-clause-marked_rights g c = c.in_ok-right.ensures.marks.each c.in_ok-right.right c.at-rights.result.now c.at-rights.ensures

pub fork_between-requires-clause-marks : goal.fork_between-requires-clause-marks
fork_between-requires-clause-marks g c =
    let P : List Tree → Type 0 = λ pool. g.M.Marks.of_pool c.args.by_root.now.rules pool c.list-2.new.marks in
    subst P (sym c.pool.ensures.is) c.in_ok-right.ensures.marks.are

pub returns-clause-fork : goal.returns-clause-fork
returns-clause-fork g c =
    let rules = c.args.by_root.now.rules in
    let peak = c.args.peak.now in
    let L : List Tree → Type 0 = λ pool. IsShortReach rules peak.left (listed_at pool c.at-lefts.result.now) in
    let R : List Tree → Type 0 = λ pool. IsShortReach rules peak.right (listed_at pool c.at-rights.result.now) in
    let from_left = reach_from rules c.args.from.now c.list-2.new.self c.in_ok-right.ensures.sides c.in_ok-left.left c.at-lefts.result.now c.at-lefts.ensures peak.left peak.left
    (c.in_ok-right.ensures.kept.kept c.in_ok-left.left peak.left
    (stands_too c.args.from.now c.list.new.self.pool c.args.pair.left c.in_ok-left.left peak.left c.requires.pair.0 c.in_ok-left.ensures.id)) refl in
    let from_right = reach_from rules c.args.from.now c.list-2.new.self c.in_ok-right.ensures.sides c.in_ok-right.right c.at-rights.result.now c.at-rights.ensures peak.right peak.right
    (stands_too c.args.from.now c.list-2.new.self.pool c.args.pair.right c.in_ok-right.right peak.right c.requires.pair.1 c.in_ok-right.ensures.id) refl in
    of_peak g.M.Marks.never_meet rules peak (listed_at c.pool.result.now c.at-lefts.result.now) (listed_at c.pool.result.now c.at-rights.result.now) c.fork_between.result
    (subst L (sym c.pool.ensures.is) from_left) (subst R (sym c.pool.ensures.is) from_right) c.fork_between.ensures

pub returns-clause-sides : goal.returns-clause-sides
returns-clause-sides g c = always_ok c.fork_between.result c.in_ok-right.ensures.sides

pub returns-clause-marks : goal.returns-clause-marks
returns-clause-marks g c = always_ok c.fork_between.result c.in_ok-right.ensures.marks
