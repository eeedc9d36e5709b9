use Rattle.conf_find.proofs.MarkLaws.{none_ended}
use Rattle.conf_find.proofs.endings.EndingsMarks.new.Goals as goal

pub returns : goal.returns
returns c = λ rules pool. none_ended rules pool _ c.new.ensures.empty
