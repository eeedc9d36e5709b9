use Rattle.text_determinism.proofs.LoopOnce.{answers_exclude}
use Rattle.text_determinism.proofs.loops.loop_answers_exclude.Goals as goal

pub returns : goal.returns
returns c = answers_exclude
