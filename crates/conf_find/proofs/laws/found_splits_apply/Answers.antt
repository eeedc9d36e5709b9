use Rattle.conf_find.proofs.ForkLaw.{found_splits_apply}
use Rattle.conf_find.proofs.laws.found_splits_apply.Goals as goal

pub returns : goal.returns
returns c = λ system peaks fork valid. found_splits_apply system valid peaks fork
