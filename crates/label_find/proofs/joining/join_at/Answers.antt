use Rattle.std.proofs.Common.{◌<◌, List, All, length, refl, ap, sym, subst}
use Rattle.trs_defs.specs.Tree.{Tree}
use Rattle.rewrite_core.specs.PlacedPeak.{PlacedPeak}
use Rattle.rewrite_core.specs.PathsOfJoin.{PathsOfJoin}
use Rattle.term_pool.proofs.Extending.{extends_itself}
use Rattle.term_pool.proofs.PoolTrees.{stands_within}
use Rattle.path_lists.specs.Adding.{Entry}
use Rattle.path_lists.specs.PathList.{IsPathList}
use Rattle.term_pool.specs.ListedIds.{listed_at}
use Rattle.label_find.specs.Closing.{CanCloseIds, IsFirstClosingIds, IsJoinBy}
use Rattle.label_find.proofs.ConstraintLaws.{ok_map}
use Rattle.label_find.proofs.Closings.{can_close_read, join_by}
use Rattle.label_find.proofs.PathsOfSides.{list_from, ends_below}
use Rattle.join_find.proofs.PairPlaces.{side_at, stands_too}
use Rattle.label_find.proofs.joining.join_at.Goals.{After-at-2}
use Rattle.label_find.proofs.joining.join_at.Goals as goal

pub list-requires-clause-there : goal.list-requires-clause-there
list-requires-clause-there g c = stands_within c.args.from.now c.args.pair.left c.args.peak.now.left c.requires.pair.0

pub list-requires-clause-side : goal.list-requires-clause-side
list-requires-clause-side g c = (side_at c.args.from.now c.args.pair.left c.args.peak.now.left c.requires.pair.0 c.requires.sides.left).side

pub list-requires-2-clause-there : goal.list-requires-2-clause-there
list-requires-2-clause-there g c = stands_within c.args.from.now c.args.pair.right c.args.peak.now.right c.requires.pair.1

pub list-requires-2-clause-side : goal.list-requires-2-clause-side
list-requires-2-clause-side g c = (side_at c.args.from.now c.args.pair.right c.args.peak.now.right c.requires.pair.1 c.requires.sides.right).side

pub list-requires-clause-sides : goal.list-requires-clause-sides
list-requires-clause-sides g c = c.make_room.ensures.sides c.args.trs.now.rules c.args.from.now c.requires.listed

lefts_below : (g : _) (c : After-at-2 g) → All (λ (e : Entry). e.0 < length c.list-2.new.self.pool) c.at.result.now
lefts_below g c = ends_below c.args.trs.now.rules c.args.from.now c.list-2.new.self c.in_ok-right.ensures.sides c.in_ok-left.left c.args.peak.now.left c.at.result.now c.at.ensures

rights_below : (g : _) (c : After-at-2 g) → All (λ (e : Entry). e.0 < length c.list-2.new.self.pool) c.at-2.result.now
rights_below g c = ends_below c.args.trs.now.rules c.args.from.now c.list-2.new.self c.in_ok-right.ensures.sides c.in_ok-right.right c.args.peak.now.right c.at-2.result.now c.at-2.ensures

from_left : (g : _) (c : After-at-2 g) → IsPathList c.args.trs.now.rules c.args.peak.now.left (listed_at c.list-2.new.self.pool c.at.result.now)
from_left g c =
    list_from c.args.trs.now.rules c.args.from.now c.list-2.new.self c.in_ok-right.ensures.sides c.in_ok-left.left c.args.peak.now.left c.at.result.now c.at.ensures
    (c.in_ok-right.ensures.kept.kept c.in_ok-left.left c.args.peak.now.left
    (stands_too c.args.from.now c.list.new.self.pool c.args.pair.left c.in_ok-left.left c.args.peak.now.left c.requires.pair.0 c.in_ok-left.ensures.id))

from_right : (g : _) (c : After-at-2 g) → IsPathList c.args.trs.now.rules c.args.peak.now.right (listed_at c.list-2.new.self.pool c.at-2.result.now)
from_right g c =
    list_from c.args.trs.now.rules c.args.from.now c.list-2.new.self c.in_ok-right.ensures.sides c.in_ok-right.right c.args.peak.now.right c.at-2.result.now c.at-2.ensures
    (stands_too c.args.from.now c.list-2.new.self.pool c.args.pair.right c.in_ok-right.right c.args.peak.now.right c.requires.pair.1 c.in_ok-right.ensures.id)

pub first_closing-requires-clause-lefts : goal.first_closing-requires-clause-lefts
first_closing-requires-clause-lefts g c =
    let P : List Tree → Type 0 = λ pool. All (λ (e : Entry). e.0 < length pool) c.at.result.now in
    subst P (sym c.pool.ensures.is) (lefts_below g (goal.at.first_closing-requires-clause-lefts g c).After-at-2)

pub first_closing-requires-clause-rights : goal.first_closing-requires-clause-rights
first_closing-requires-clause-rights g c =
    let P : List Tree → Type 0 = λ pool. All (λ (e : Entry). e.0 < length pool) c.at-2.result.now in
    subst P (sym c.pool.ensures.is) (rights_below g (goal.at.first_closing-requires-clause-rights g c).After-at-2)

pub first_closing-requires-clause-can : goal.first_closing-requires-clause-can
first_closing-requires-clause-can g c =
    let P : List Tree → Type 0 = λ pool. CanCloseIds c.args.ranks.now c.peak.inside.inner c.peak.inside.outer pool c.at.result.now c.at-2.result.now in
    let at = (goal.at.first_closing-requires-clause-can g c).After-at-2 in
    subst P (sym c.pool.ensures.is)
    (can_close_read c.args.trs.now.rules c.args.ranks.now c.list-2.new.self.pool c.list-2.new.self.pool c.at.result.now c.at-2.result.now c.args.peak.now
    c.args.peak.now.left c.args.peak.now.right c.peak.inside.inner c.peak.inside.outer (extends_itself c.list-2.new.self.pool) (lefts_below g at) refl
    refl (ap (λ (p : PlacedPeak). p.inner) c.peak.view_is) (ap (λ (p : PlacedPeak). p.outer) c.peak.view_is) (from_left g at)
    (from_right g at) c.at.result.now c.at-2.result.now refl refl c.requires.can)

pub returns-clause-join : goal.returns-clause-join
returns-clause-join g c =
    let at = (goal.at.returns-clause-join g c).After-at-2 in
    ok_map c.first_closing.result (IsFirstClosingIds c.args.ranks.now c.peak.inside.inner c.peak.inside.outer c.pool.result.now c.at.result.now c.at-2.result.now)
    (IsJoinBy c.args.trs.now.rules c.args.ranks.now c.args.peak.now)
    (λ (join : PathsOfJoin) h. (let P : List Tree → Type 0 = λ pool. IsFirstClosingIds c.args.ranks.now c.peak.inside.inner c.peak.inside.outer pool c.at.result.now c.at-2.result.now join in
    join_by c.args.trs.now.rules c.args.ranks.now c.list-2.new.self.pool c.list-2.new.self.pool c.at.result.now c.at-2.result.now c.args.peak.now
    c.args.peak.now.left c.args.peak.now.right c.peak.inside.inner c.peak.inside.outer (extends_itself c.list-2.new.self.pool) (lefts_below g at) refl
    refl (ap (λ (p : PlacedPeak). p.inner) c.peak.view_is) (ap (λ (p : PlacedPeak). p.outer) c.peak.view_is) (from_left g at)
    (from_right g at) c.at.result.now c.at-2.result.now refl refl join (subst P c.pool.ensures.is h))) c.first_closing.ensures
