use Rattle.std.proofs.Common.{refl}
use Rattle.crit_pairs.proofs.GrowthLaws.{no_table}
use Rattle.crit_pairs.proofs.table.PeakTable.new.Goals as goal

pub returns : goal.returns
returns c = λ pool. no_table pool _ c.new.ensures c.new-2.ensures.items c.new-3.ensures.items refl
