use Rattle.join_find.proofs.KeptOfSides.{none_reached}
use Rattle.join_find.proofs.reached_sides.ReachedSides.new.Goals as goal

pub returns-clause-sides : goal.returns-clause-sides
returns-clause-sides c = λ rules.
    none_reached rules c.new.result c.new-2.result c.new-3.result c.new-4.result c.new-5.result (c.new-3.ensures rules c.new.result) c.new-4.ensures c.new-5.ensures
