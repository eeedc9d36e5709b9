use Rattle.std.proofs.Common.{take}
use Rattle.crit_pairs.specs.Table.{ArePairs}
use Rattle.crit_pairs.proofs.peak_pairs.PeakPairs.of.Given as goal

abbrev pub invariant-loop-peak : goal.invariant-loop-peak
invariant-loop-peak g l = ArePairs l.pool l.pairs.items (take l.peak-index l.peaks)
