use Rattle.conf_find.proofs.MarkLaws.{none_numbered}
use Rattle.conf_find.proofs.caps.CapMarksMarks.new.Goals as goal

pub returns : goal.returns
returns c = λ rules pool. none_numbered rules pool _ c.new-2.ensures.empty
