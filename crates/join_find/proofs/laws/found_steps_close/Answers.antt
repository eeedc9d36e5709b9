use Rattle.join_find.proofs.ParallelLaw.{found_steps_meet}
use Rattle.join_find.proofs.laws.found_steps_close.Goals as goal

pub returns : goal.returns
returns c = found_steps_meet
