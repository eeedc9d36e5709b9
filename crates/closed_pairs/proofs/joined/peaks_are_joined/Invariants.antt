use Rattle.std.proofs.Common.{zip}
use Rattle.rewrite_core.proofs.Items.{Passed}
use Rattle.closed_pairs.specs.Joined.{joins}
use Rattle.closed_pairs.proofs.joined.peaks_are_joined.Given as goal

abbrev pub invariant-loop-n : goal.invariant-loop-n
invariant-loop-n g l = Passed (λ n item. joins l.trs.rules n item.0 item.1) (zip l.peaks l.joins) l.n
