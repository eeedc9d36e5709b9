use Rattle.std.proofs.Common.{take}
use Rattle.assign_search.specs.Continues.{Continues}
use Rattle.join_find.specs.First.{Along}
use Rattle.join_find.specs.StrongRow.{IsFirstFour}
use Rattle.join_find.specs.ReachedSides.{AreReached, HasKnownIds}
use Rattle.join_find.proofs.strong.strong_among.Given as goal

abbrev pub invariant-loop-n : goal.invariant-loop-n
invariant-loop-n g l = record {
  joined : Along (IsFirstFour l.trs.rules) (take l.n l.peaks) l.fours.items;
  sides : AreReached l.trs.rules l.sides;
  ids : HasKnownIds l.pairs.pool l.sides;
  continues : Continues g.P.Stop l.fn.stop l.stop;
}
