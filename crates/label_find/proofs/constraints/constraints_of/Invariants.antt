use Rattle.std.proofs.Common.{take}
use Rattle.assign_search.specs.Continues.{Continues}
use Rattle.join_find.specs.First.{Along}
use Rattle.label_find.specs.ConstraintPuzzle.{IsConstraintFor}
use Rattle.label_find.specs.ListedSides.{AreListed, AreNumbered}
use Rattle.label_find.proofs.constraints.constraints_of.Given as goal

abbrev pub invariant-loop-n : goal.invariant-loop-n
invariant-loop-n g l = record {
  made : Along (IsConstraintFor l.trs.rules l.table.items) (take l.n l.peaks) l.constraints.items;
  listed : AreListed l.trs.rules l.pairs.pool l.sides;
  numbers : AreNumbered l.sides l.table.items;
  continues : Continues g.P.Stop l.fn.stop l.stop;
}
