use Rattle.std.proofs.Common.{All, take}
use Rattle.kbo_order.specs.Faults.{IsRankedBelow}
use Rattle.kbo_order.proofs.table.is_on_top.Given as goal

abbrev pub invariant-loop-other : goal.invariant-loop-other
invariant-loop-other l = All (IsRankedBelow l.entry) (take l.other-index l.entries)
