use Rattle.term_pool.proofs.Extending.{extends_on}
use Rattle.join_find.proofs.KeptOfSides.{narrow_still, first_join_of, always_ok}
use Rattle.join_find.proofs.reached_sides.ReachedSides.first_join.Goals as goal

pub list_reached-requires-2-clause-narrow : goal.list_reached-requires-2-clause-narrow
list_reached-requires-2-clause-narrow c = narrow_still c.args.self.now.pool c.list_reached.new.self.pool c.args.right c.in_ok-list_reached.ensures.kept c.requires.right

pub returns-clause-join : goal.returns-clause-join
returns-clause-join c = λ peak left right.
    first_join_of c.args.by_root.now.rules c.args.self.now.pool c.list_reached-2.new.self c.in_ok-list_reached-2.ensures.sides
    (extends_on c.args.self.now.pool c.list_reached.new.self.pool c.list_reached-2.new.self.pool c.in_ok-list_reached.ensures.kept c.in_ok-list_reached-2.ensures.kept) c.ids_are_distinct.ensures
    c.first_common.result c.args.left c.args.right c.at.result.now c.at-2.result.now c.at.ensures c.first_common.ensures peak c.at-2.ensures left right

pub returns-clause-sides : goal.returns-clause-sides
returns-clause-sides c = always_ok c.first_common.result c.in_ok-list_reached-2.ensures.sides

pub returns-clause-ids : goal.returns-clause-ids
returns-clause-ids c = λ terms ids.
    always_ok c.first_common.result (c.in_ok-list_reached-2.ensures.ids terms (c.in_ok-list_reached.ensures.ids terms ids))
