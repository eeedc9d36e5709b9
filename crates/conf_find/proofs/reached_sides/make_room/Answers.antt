use Rattle.conf_find.proofs.KeptReach.{none_reached, none_marked}
use Rattle.conf_find.proofs.reached_sides.make_room.Goals as goal

pub returns-clause-sides : goal.returns-clause-sides
returns-clause-sides g c = λ rules from sides. none_reached rules from c.new.result c.new.ensures.lists (c.new.ensures.ids from) (c.new.ensures.known rules)

pub returns-clause-marks : goal.returns-clause-marks
returns-clause-marks g c = λ rules marks.
    none_marked g.M.Marks.has_mark g.M.Marks.of_pool rules c.new.result c.new-2.result c.new.ensures.lists (c.new-2.ensures rules c.new.result.pool)
