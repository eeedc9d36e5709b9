use Rattle.crit_pairs.proofs.ListedOnce.{listed_once}
use Rattle.crit_pairs.proofs.laws.peaks_are_listed_once.Goals as goal

pub returns : goal.returns
returns c = listed_once
