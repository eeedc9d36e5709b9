use Rattle.rule_label.proofs.OneAnswer.{label_once, labels_once}
use Rattle.rule_label.proofs.laws.labels_answer_once.Goals as goal

pub returns : goal.returns
returns c = record { labels = label_once c.peaks_are_listed_once.ensures; given_labels = labels_once }
