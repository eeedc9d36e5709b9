use Rattle.rule_label.proofs.Decreasing.{decreasing_list}
use Rattle.rule_label.proofs.covering.decreasing_list_concludes.Goals as goal

pub returns : goal.returns
returns c = decreasing_list c.followed_paths.ensures.labelled c.decreasing_peaks.ensures.confluent _ c.rules.ensures.valid
