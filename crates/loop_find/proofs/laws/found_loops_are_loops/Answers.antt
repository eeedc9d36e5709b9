use Rattle.loop_find.proofs.LoopSteps.{found_loops}
use Rattle.loop_find.proofs.laws.found_loops_are_loops.Goals as goal

pub returns : goal.returns
returns c = found_loops
