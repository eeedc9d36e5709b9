use Rattle.closed_pairs.proofs.Conclusions.{joined_list}
use Rattle.closed_pairs.proofs.covering.joined_list_concludes.Goals as goal

pub returns : goal.returns
returns c = joined_list c.joined_peaks.ensures.confluent _ c.rules.ensures.valid
