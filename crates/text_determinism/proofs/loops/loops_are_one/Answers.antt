use Rattle.text_determinism.proofs.LoopOnce.{loops_once}
use Rattle.text_determinism.proofs.loops.loops_are_one.Goals as goal

pub returns : goal.returns
returns c = loops_once
