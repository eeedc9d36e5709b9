use Rattle.closed_pairs.proofs.Conclusions.{strong_concludes}
use Rattle.closed_pairs.proofs.laws.strongly_closed_peaks_conclude.Goals as goal

pub returns : goal.returns
returns c = strong_concludes c.strongly_closed_peaks.ensures.confluent c.listed_peaks_cover.ensures
