use Rattle.std.proofs.Common.{take}
use Rattle.closed_pairs.specs.ParallelClosed.{paths_of}
use Rattle.assign_search.specs.Continues.{Continues}
use Rattle.join_find.specs.First.{Along}
use Rattle.term_pool.specs.Crossing.{AreKnownIds}
use Rattle.join_find.specs.ParallelRow.{IsParallelClosing}
use Rattle.join_find.specs.LastSteps.{AreLastSteps}
use Rattle.join_find.proofs.parallel.parallel_among.Given as goal

abbrev pub invariant-loop-n : goal.invariant-loop-n
invariant-loop-n g l = record {
  joined : Along (IsParallelClosing l.trs.rules) (take l.n l.peaks) (paths_of l.steps.items);
  known : AreKnownIds l.pairs.pool l.pool l.known;
  last : AreLastSteps l.trs.rules l.pool l.last;
  continues : Continues g.P.Stop l.fn.stop l.stop;
}
