use Rattle.join_find.proofs.NewmanLaw.{found_joins_meet}
use Rattle.join_find.proofs.laws.found_joins_join.Goals as goal

pub returns : goal.returns
returns c = found_joins_meet
