use Rattle.std.proofs.Common.{List, is_some, IsTrue, sym, subst}
use Rattle.trs_defs.specs.Tree.{Tree}
use Rattle.term_pool.specs.Pooled.{Extends}
use Rattle.join_find.specs.KeptLists.{list_of}
use Rattle.join_find.specs.declared.kept_lists.KeptLists.{KeptLists}
use Rattle.join_find.proofs.KeptOfSides.{narrow_still, first_half_of, always_ok}
use Rattle.join_find.proofs.reached_sides.ReachedSides.first_half.Goals.{In_ok-list_near}
use Rattle.join_find.proofs.reached_sides.ReachedSides.first_half.Goals as goal

extends : (c : In_ok-list_near) → Extends c.args.self.now.pool c.list_near.new.self.pool
extends c =
    let E : List Tree → Type 0 = λ pool. Extends c.args.self.now.pool pool in
    subst E (sym c.in_ok-list_near.ensures.same) c.in_ok-list_reached.ensures.kept

pub list_near-requires-clause-narrow : goal.list_near-requires-clause-narrow
list_near-requires-clause-narrow c = narrow_still c.args.self.now.pool c.list_reached.new.self.pool c.args.to c.in_ok-list_reached.ensures.kept c.requires.to

pub at-requires : goal.at-requires
at-requires c =
    let L : KeptLists → Type 0 = λ lists. IsTrue (is_some (list_of lists c.args.from)) in
    subst L (sym c.in_ok-list_near.ensures.reached) c.in_ok-list_reached.ensures.listed

pub returns-clause-half : goal.returns-clause-half
returns-clause-half c = λ s t from to.
    first_half_of c.args.by_root.now.rules c.args.self.now.pool c.list_near.new.self c.in_ok-list_near.ensures.sides (extends (goal.at.returns-clause-half c).In_ok-list_near) c.ids_are_distinct.ensures
    c.first_common.result c.args.from c.args.to c.at.result.now c.at-2.result.now c.at.ensures c.first_common.ensures s t c.at-2.ensures from to

pub returns-clause-sides : goal.returns-clause-sides
returns-clause-sides c = always_ok c.first_common.result c.in_ok-list_near.ensures.sides

pub returns-clause-kept : goal.returns-clause-kept
returns-clause-kept c = always_ok c.first_common.result (extends (goal.at.returns-clause-kept c).In_ok-list_near)

pub returns-clause-ids : goal.returns-clause-ids
returns-clause-ids c = λ terms ids.
    always_ok c.first_common.result (c.in_ok-list_near.ensures.ids terms (c.in_ok-list_reached.ensures.ids terms ids))
