use Rattle.std.proofs.Common.{ap}
use Rattle.std.specs.Prelude.{is_some}
use Rattle.conf_find.proofs.caps.CapMarksMarks.mark.Goals as goal

pub returns-clause-marked : goal.returns-clause-marked
returns-clause-marked c = ap is_some c.in_ok-number_of.ensures.number
