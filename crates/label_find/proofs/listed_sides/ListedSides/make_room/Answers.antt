use Rattle.label_find.proofs.PathsOfSides.{none_listed}
use Rattle.label_find.proofs.listed_sides.ListedSides.make_room.Goals as goal

pub returns-clause-sides : goal.returns-clause-sides
returns-clause-sides c =
    λ rules from before. none_listed rules from (record { pool = c.new.result; known = c.new-2.result; ends = c.new-3.result; lists = c.new-4.result; numbers = c.new-5.result }) c.new-4.ensures
    (c.new-2.ensures from c.new.result) (c.new-3.ensures rules c.new.result)
