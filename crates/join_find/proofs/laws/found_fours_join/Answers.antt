use Rattle.join_find.proofs.StrongLaw.{found_fours_meet}
use Rattle.join_find.proofs.laws.found_fours_join.Goals as goal

pub returns : goal.returns
returns c = found_fours_meet
