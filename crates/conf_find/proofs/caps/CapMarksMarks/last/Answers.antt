use Rattle.conf_find.proofs.MarkLaws.{caps_last}
use Rattle.conf_find.proofs.caps.CapMarksMarks.last.Goals as goal

pub returns : goal.returns
returns c = caps_last
