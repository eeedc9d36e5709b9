use Rattle.std.specs.Prelude.{IfSome}
use Rattle.assign_search.specs.Continues.{Continues}
use Rattle.conf_find.specs.ForkRows.{PartsNot}
use Rattle.conf_find.specs.ReachedSides.{AreReached, AreMarksOf}
use Rattle.conf_find.proofs.PeakList.{ArePassed}
use Rattle.conf_find.proofs.ForkPeaks.{IsOfPassed}
use Rattle.conf_find.proofs.first_fork.first_fork.Given as goal

abbrev pub invariant-loop-n : goal.invariant-loop-n
invariant-loop-n g l = record {
  passed : ArePassed (PartsNot g.M.Marks.never_meet l.trs.rules) l.peaks l.n;
  before : IfSome l.before (IsOfPassed g.M.Marks.never_meet l.trs.rules l.pairs.pool);
  sides : AreReached l.trs.rules l.pairs.pool l.sides;
  marks : AreMarksOf g.M.Marks.has_mark g.M.Marks.of_pool l.trs.rules l.sides l.marks;
  continues : Continues g.P.Stop l.fn.stop l.stop;
}
