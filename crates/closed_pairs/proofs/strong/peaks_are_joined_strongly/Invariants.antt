use Rattle.std.proofs.Common.{zip}
use Rattle.rewrite_core.proofs.Items.{Passed}
use Rattle.closed_pairs.specs.StronglyClosed.{joins_strongly}
use Rattle.closed_pairs.proofs.strong.peaks_are_joined_strongly.Given as goal

abbrev pub invariant-loop-n : goal.invariant-loop-n
invariant-loop-n g l = Passed (λ n item. joins_strongly l.trs.rules n item.0 item.1) (zip l.peaks l.fours) l.n
