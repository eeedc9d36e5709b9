use Rattle.closed_pairs.specs.Joined.{joins}
use Rattle.closed_pairs.proofs.PooledItems.{ArePassedBefore}
use Rattle.closed_pairs.proofs.pooled.pooled_peaks_are_joined.Given as goal

abbrev pub invariant-loop-n : goal.invariant-loop-n
invariant-loop-n l = ArePassedBefore (joins l.trs.rules) l.trs.rules l.joins l.n l.pooled
