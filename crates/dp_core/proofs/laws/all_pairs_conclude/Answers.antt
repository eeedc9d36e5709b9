use Rattle.dp_core.proofs.Conclusions.{all_conclude}
use Rattle.dp_core.proofs.laws.all_pairs_conclude.Goals as goal

pub returns : goal.returns
returns c = all_conclude c.dependency_pairs_suffice.ensures.terminating
