use Rattle.std.proofs.Common.{◌≡◌, take}
use Rattle.crit_pairs.specs.Table.{pairs_of}
use Rattle.crit_pairs.proofs.table.PeakTable.pairs.Given as goal

abbrev pub invariant-loop-list : goal.invariant-loop-list
invariant-loop-list l = l.pairs.items ≡ pairs_of (take l.list-index l.list-items)
