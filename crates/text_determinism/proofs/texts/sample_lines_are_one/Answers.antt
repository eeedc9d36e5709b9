use Rattle.text_determinism.proofs.OneText.{one_sample_line}
use Rattle.text_determinism.proofs.texts.sample_lines_are_one.Goals as goal

pub returns : goal.returns
returns c = one_sample_line c.answers_are_one.ensures
