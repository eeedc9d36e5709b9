use Rattle.trsbatch.proofs.WrittenOnce.{one_written}
use Rattle.trsbatch.proofs.laws.written_texts_are_one.Goals as goal

pub returns : goal.returns
returns c = one_written
