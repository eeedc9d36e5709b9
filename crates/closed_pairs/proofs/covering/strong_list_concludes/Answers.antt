use Rattle.closed_pairs.proofs.Conclusions.{strong_list}
use Rattle.closed_pairs.proofs.covering.strong_list_concludes.Goals as goal

pub returns : goal.returns
returns c = strong_list c.strongly_closed_peaks.ensures.confluent _ c.rules.ensures.valid
