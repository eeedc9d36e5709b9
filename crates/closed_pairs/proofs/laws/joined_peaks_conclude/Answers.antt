use Rattle.closed_pairs.proofs.Conclusions.{joined_concludes}
use Rattle.closed_pairs.proofs.laws.joined_peaks_conclude.Goals as goal

pub returns : goal.returns
returns c = joined_concludes c.joined_peaks.ensures.confluent c.listed_peaks_cover.ensures
