use Rattle.std.proofs.Common.{List, IsTrue, is_some, IfOk, refl, ap, sym, ◌∙◌, subst}
use Rattle.rewrite_core.specs.PlacedPeak.{PlacedPeak}
use Rattle.join_find.specs.KeptLists.{list_of}
use Rattle.join_find.specs.declared.kept_lists.KeptLists.{KeptLists}
use Rattle.label_find.specs.declared.side_rules.SideRules.{SideRules}
use Rattle.label_find.specs.ConstraintPuzzle.{IsSmallSide, IsConstraintOf, IsConstraintFor}
use Rattle.label_find.specs.ListedSides.{AreListed, IsNumbered}
use Rattle.join_find.proofs.KeptOfSides.{always_ok}
use Rattle.term_pool.proofs.PoolTrees.{stands_within}
use Rattle.label_find.proofs.ConstraintLaws.{constraint_of_numbered, ok_map}
use Rattle.label_find.proofs.PathsOfSides.{listed_same}
use Rattle.label_find.proofs.ShortPaths.{short_paths}
use Rattle.join_find.proofs.PairPlaces.{side_at, stands_too}
use Rattle.label_find.proofs.NumberedSides.{still_numbered, small_side, front_on}
use Rattle.label_find.proofs.constraints.constraint_at.Goals.{In_ok-right}
use Rattle.label_find.proofs.constraints.constraint_at.Goals as goal

pub list-requires-clause-there : goal.list-requires-clause-there
list-requires-clause-there g c = stands_within c.args.from.now c.args.pair.left c.args.peak.now.left c.requires.pair.0

pub list-requires-clause-side : goal.list-requires-clause-side
list-requires-clause-side g c = (side_at c.args.from.now c.args.pair.left c.args.peak.now.left c.requires.pair.0 c.requires.sides.left).side

pub list-requires-2-clause-there : goal.list-requires-2-clause-there
list-requires-2-clause-there g c = stands_within c.args.from.now c.args.pair.right c.args.peak.now.right c.requires.pair.1

pub list-requires-2-clause-side : goal.list-requires-2-clause-side
list-requires-2-clause-side g c = (side_at c.args.from.now c.args.pair.right c.args.peak.now.right c.requires.pair.1 c.requires.sides.right).side

pub list-requires-clause-sides : goal.list-requires-clause-sides
list-requires-clause-sides g c = c.make_room.ensures.sides c.args.trs.now.rules c.args.from.now c.requires.listed

pub number-requires-clause-listed : goal.number-requires-clause-listed
number-requires-clause-listed g c = c.in_ok-right_id.ensures.still c.in_ok-left_id.left_id c.in_ok-left_id.ensures.listed

pub number-requires-clause-numbers : goal.number-requires-clause-numbers
number-requires-clause-numbers g c =
    let table = c.args.table.now.items in
    c.in_ok-right_id.ensures.numbers table (c.in_ok-left_id.ensures.numbers table (c.make_room.ensures.numbers table c.requires.numbers))

pub number-requires-clause-short : goal.number-requires-clause-short
number-requires-clause-short g c = short_paths c.args.trs.now.rules c.args.from.now c.list-2.new.self c.in_ok-right_id.ensures.sides

pub number-requires-2-clause-short : goal.number-requires-2-clause-short
number-requires-2-clause-short g c =
    short_paths c.args.trs.now.rules c.args.from.now c.number.new.self (listed_same c.args.trs.now.rules c.args.from.now c.list-2.new.self c.number.new.self c.in_ok-left.ensures.same c.in_ok-right_id.ensures.sides)

pub number-requires-2-clause-listed : goal.number-requires-2-clause-listed
number-requires-2-clause-listed g c =
    subst (λ (lists : KeptLists). IsTrue (is_some (list_of lists c.in_ok-right_id.right_id))) (sym c.in_ok-left.ensures.same.lists) c.in_ok-right_id.ensures.listed

all_listed : (g : _) (c : In_ok-right g) → AreListed c.args.trs.now.rules c.args.from.now c.number-2.new.self
all_listed g c =
    listed_same c.args.trs.now.rules c.args.from.now c.number.new.self c.number-2.new.self c.in_ok-right.ensures.same
    (listed_same c.args.trs.now.rules c.args.from.now c.list-2.new.self c.number.new.self c.in_ok-left.ensures.same c.in_ok-right_id.ensures.sides)

of_left : (g : _) (c : In_ok-right g) → IsNumbered c.number-2.new.self c.number-2.new.table.items c.in_ok-left_id.left_id c.in_ok-left.left
of_left g c =
    still_numbered c.number.new.self c.number-2.new.self c.number.new.table.items c.number-2.new.table.items c.in_ok-left_id.left_id c.in_ok-left.left
    c.in_ok-right.ensures.same c.in_ok-right.ensures.grown c.in_ok-left.ensures.number

pub new-requires-clause-left : goal.new-requires-clause-left
new-requires-clause-left g c =
    let at = (goal.at.new-requires-clause-left g c).In_ok-right in
    subst (λ (sides : List SideRules). IsSmallSide sides c.in_ok-left.left) (sym c.deref.ensures.value)
    (small_side c.args.trs.now.rules c.args.from.now c.number-2.new.self c.number-2.new.table.items c.in_ok-left_id.left_id c.in_ok-left.left (all_listed g at) (of_left g at))

pub new-requires-clause-right : goal.new-requires-clause-right
new-requires-clause-right g c =
    let at = (goal.at.new-requires-clause-right g c).In_ok-right in
    subst (λ (sides : List SideRules). IsSmallSide sides c.in_ok-right.right) (sym c.deref.ensures.value)
    (small_side c.args.trs.now.rules c.args.from.now c.number-2.new.self c.number-2.new.table.items c.in_ok-right_id.right_id c.in_ok-right.right (all_listed g at) c.in_ok-right.ensures.number)

pub returns-clause-constraint : goal.returns-clause-constraint
returns-clause-constraint g c =
    let at = (goal.at.returns-clause-constraint g c).In_ok-right in
    let P : List SideRules → Type 0 = λ sides. IfOk c.new.result (IsConstraintOf c.peak.inside.inner c.peak.inside.outer c.in_ok-left.left c.in_ok-right.right sides) in
    ok_map c.new.result (IsConstraintOf c.peak.inside.inner c.peak.inside.outer c.in_ok-left.left c.in_ok-right.right c.number-2.new.table.items)
    (IsConstraintFor c.args.trs.now.rules c.number-2.new.table.items c.args.peak.now)
    (λ d h. constraint_of_numbered c.args.trs.now.rules c.args.from.now c.list-2.new.self c.number-2.new.self c.number-2.new.table.items c.args.peak.now c.args.peak.now.left c.args.peak.now.right
    c.in_ok-left_id.left_id c.in_ok-right_id.right_id c.peak.inside.inner c.peak.inside.outer c.in_ok-left.left c.in_ok-right.right d
    (c.in_ok-right.ensures.same.lists ∙ c.in_ok-left.ensures.same.lists) c.in_ok-right_id.ensures.sides (rw c.pool.ensures.is at c.ids_are_distinct.ensures)
    (c.in_ok-right_id.ensures.kept.kept c.in_ok-left_id.left_id c.args.peak.now.left
    (stands_too c.args.from.now c.list.new.self.pool c.args.pair.left c.in_ok-left_id.left_id c.args.peak.now.left c.requires.pair.0 c.in_ok-left_id.ensures.id))
    (stands_too c.args.from.now c.list-2.new.self.pool c.args.pair.right c.in_ok-right_id.right_id c.args.peak.now.right c.requires.pair.1 c.in_ok-right_id.ensures.id)
    refl refl (ap (λ (p : PlacedPeak). p.inner) c.peak.view_is)
    (ap (λ (p : PlacedPeak). p.outer) c.peak.view_is) (of_left g at) c.in_ok-right.ensures.number h) (subst P c.deref.ensures.value c.new.ensures)

pub returns-clause-grown : goal.returns-clause-grown
returns-clause-grown g c = always_ok c.new.result (front_on c.args.table.now.items c.number.new.table.items c.number-2.new.table.items c.in_ok-left.ensures.grown c.in_ok-right.ensures.grown)

pub returns-clause-listed : goal.returns-clause-listed
returns-clause-listed g c = always_ok c.new.result (all_listed g (goal.at.returns-clause-listed g c).In_ok-right)

pub returns-clause-numbers : goal.returns-clause-numbers
returns-clause-numbers g c = always_ok c.new.result c.in_ok-right.ensures.numbers
