use Rattle.std.proofs.Common.{zip}
use Rattle.rewrite_core.proofs.Items.{Passed}
use Rattle.closed_pairs.specs.ParallelClosed.{closes_in_parallel, paths_of}
use Rattle.closed_pairs.proofs.parallel.peaks_are_closed.Given as goal

abbrev pub invariant-loop-n : goal.invariant-loop-n
invariant-loop-n g l = Passed (λ n item. closes_in_parallel l.trs.rules n item.0 item.1) (zip l.peaks (paths_of l.steps)) l.n
