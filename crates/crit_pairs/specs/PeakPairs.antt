-- The sides of critical peaks as ids in one pool.
use Rattle.std.specs.Prelude.{List}
use Rattle.rewrite_core.specs.PlacedPeak.{PlacedPeak}
use Rattle.crit_pairs.specs.Table.{ArePairs}
use Rattle.crit_pairs.specs.declared.peak_pairs.PeakPairs.{PeakPairs}

-- they are the sides of these peaks
abbrev pub HoldPairsOf : PeakPairs → List PlacedPeak → Type 0
HoldPairsOf pairs peaks = ArePairs pairs.pool pairs.pairs.items peaks
