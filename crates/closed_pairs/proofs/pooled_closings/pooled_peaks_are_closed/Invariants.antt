use Rattle.closed_pairs.specs.ParallelClosed.{paths_of, closes_in_parallel}
use Rattle.closed_pairs.proofs.PooledItems.{ArePassedBefore}
use Rattle.closed_pairs.proofs.pooled_closings.pooled_peaks_are_closed.Given as goal

abbrev pub invariant-loop-n : goal.invariant-loop-n
invariant-loop-n l = ArePassedBefore (closes_in_parallel l.trs.rules) l.trs.rules (paths_of l.steps) l.n l.pooled
