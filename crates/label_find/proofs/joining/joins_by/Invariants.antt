use Rattle.std.proofs.Common.{take}
use Rattle.assign_search.specs.Continues.{Continues}
use Rattle.join_find.specs.First.{Along}
use Rattle.label_find.specs.Closing.{IsJoinBy}
use Rattle.label_find.specs.ListedSides.{AreListed}
use Rattle.label_find.proofs.joining.joins_by.Given as goal

abbrev pub invariant-loop-n : goal.invariant-loop-n
invariant-loop-n g l = record {
  made : Along (IsJoinBy l.trs.rules l.ranks) (take l.n l.peaks) l.joins.items;
  listed : AreListed l.trs.rules l.pairs.pool l.sides;
  continues : Continues g.P.Stop l.fn.stop l.stop;
}
