use Rattle.text_determinism.proofs.OneText.{one_serial_text}
use Rattle.text_determinism.proofs.texts.serial_texts_are_one.Goals as goal

pub returns : goal.returns
returns c = one_serial_text c.answers_are_one.ensures
