use Rattle.std.proofs.Common.{List, Ok, drop, map, take}
use Rattle.rewrite_core.specs.PlacedPeak.{PlacedPeak}
use Rattle.crit_pairs.specs.PeakList.{ListsPeaks}
use Rattle.crit_pairs.specs.Table.{ArePairs}
use Rattle.completion.specs.GreaterBy.{GreaterBy}
use Rattle.completion.specs.CompletionRun.{sides}
use Rattle.completion.specs.MetTerms.{IsMet, KeepsBase}
use Rattle.completion.proofs.LoopLaws.{FindsOn}
use Rattle.completion.proofs.closing.find_pair.Given as goal

abbrev pub invariant-loop-pair : goal.invariant-loop-pair
invariant-loop-pair l = record {
  on : (peaks : List PlacedPeak) → ListsPeaks l.system.rules (Ok peaks) → ArePairs (take l.fn.met.base l.fn.met.pool) l.pairs peaks
      → FindsOn (GreaterBy l.order) l.system (map sides peaks) l.fn.units l.left (map sides (drop l.pair-index peaks));
  kept : KeepsBase l.fn.met l.met;
  met : IsMet l.system.rules l.met;
}
