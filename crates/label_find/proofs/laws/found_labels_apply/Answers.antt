use Rattle.label_find.proofs.LabelLaw.{found_labels_fit}
use Rattle.label_find.proofs.laws.found_labels_apply.Goals as goal

pub returns : goal.returns
returns c = found_labels_fit
