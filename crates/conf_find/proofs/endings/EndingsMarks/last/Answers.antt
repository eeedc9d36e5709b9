use Rattle.conf_find.proofs.MarkLaws.{endings_last}
use Rattle.conf_find.proofs.endings.EndingsMarks.last.Goals as goal

pub returns : goal.returns
returns c = endings_last
