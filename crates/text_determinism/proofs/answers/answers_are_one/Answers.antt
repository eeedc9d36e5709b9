use Rattle.text_determinism.proofs.OneAnswer.{answers_one}
use Rattle.text_determinism.proofs.answers.answers_are_one.Goals as goal

pub returns : goal.returns
returns c = answers_one c.loops_are_one.ensures c.loop_answers_exclude.ensures
