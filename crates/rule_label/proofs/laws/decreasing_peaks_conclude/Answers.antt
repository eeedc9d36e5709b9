use Rattle.rule_label.proofs.Decreasing.{decreasing_concludes}
use Rattle.rule_label.proofs.laws.decreasing_peaks_conclude.Goals as goal

pub returns : goal.returns
returns c = decreasing_concludes c.followed_paths.ensures.labelled c.decreasing_peaks.ensures.confluent c.listed_peaks_cover.ensures
