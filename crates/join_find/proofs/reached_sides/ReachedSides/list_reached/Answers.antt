use Rattle.join_find.proofs.KeptOfSides.{one_more_reached, then_ok, always_ok}
use Rattle.term_pool.proofs.CrossingLaws.{known_ids_on}
use Rattle.join_find.proofs.reached_sides.ReachedSides.list_reached.Goals as goal

pub returns-clause-sides : goal.returns-clause-sides
returns-clause-sides c =
    then_ok c.put.result
    (λ put. one_more_reached c.args.by_root.now.rules c.args.self.now c.requires.sides c.reach.new.pool c.args.self.now.known_ids
    c.in_ok-list.ensures.kept c.reach.new.known c.put.new.self c.new.result c.args.id c.in_ok-list.list.items
    c.new.ensures put c.requires.narrow.there c.in_ok-list.ensures.list c.in_ok-list.ensures.there c.in_ok-list.ensures.known)
    c.put.ensures

pub returns-clause-ids : goal.returns-clause-ids
returns-clause-ids c = λ terms ids.
    always_ok c.put.result (known_ids_on terms c.args.self.now.pool c.reach.new.pool c.args.self.now.known_ids c.in_ok-list.ensures.kept ids)
