use Rattle.closed_pairs.proofs.Conclusions.{parallel_list}
use Rattle.closed_pairs.proofs.covering.parallel_list_concludes.Goals as goal

pub returns : goal.returns
returns c = parallel_list c.parallel_closed_peaks.ensures.confluent c.parallel_paths.ensures.parallel _ c.rules.ensures.valid
