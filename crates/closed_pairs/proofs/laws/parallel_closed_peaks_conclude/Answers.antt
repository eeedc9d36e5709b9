use Rattle.closed_pairs.proofs.Conclusions.{parallel_concludes}
use Rattle.closed_pairs.proofs.laws.parallel_closed_peaks_conclude.Goals as goal

pub returns : goal.returns
returns c = parallel_concludes c.parallel_closed_peaks.ensures.confluent c.parallel_paths.ensures.parallel c.listed_peaks_cover.ensures
