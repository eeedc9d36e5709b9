-- What strategies look up in a system.
use Rattle.std.specs.Prelude.{◌≡◌, List, Option, IfSome, Ok, Err}
use Rattle.trs_defs.specs.System.{System}
use Rattle.pair_theory.specs.DependencyPair.{DependencyPair, dependency_pairs}
use Rattle.loop_find.specs.crit_pairs.PeakList.{ListsPeaks}
use Rattle.loop_find.specs.crit_pairs.declared.faults.PeakFault.{PeakFault}
use Rattle.loop_find.specs.crit_pairs.PeakPairs.{HoldPairsOf}
use Rattle.strategies.specs.declared.peaks.KnownPeaks.{KnownPeaks}
use Rattle.strategies.specs.declared.peaks.KnownPeaks.TheVariants.{Listed, PastLimit}

-- the critical peaks are these, with the pairs of their sides, or they pass a limit
abbrev pub AreKnownPeaks : System → KnownPeaks → Type 0
AreKnownPeaks system (Listed found) = ListsPeaks system.rules (Ok found.list.items) × HoldPairsOf found.pairs found.list.items
AreKnownPeaks system PastLimit = (fault : PeakFault) × ListsPeaks system.rules (Err fault)

-- the pairs, the graph and the peaks, where they are there, are of the system
pub record AreTablesOf (system : System) (pairs : Option (List DependencyPair)) (graph : Option System) (peaks : Option KnownPeaks) : Type 0 where
  pub pairs_are : IfSome pairs (λ pairs. pairs ≡ dependency_pairs system.rules)
  pub graph_is : IfSome graph (λ graph. graph ≡ system)
  pub peaks_are : IfSome peaks (AreKnownPeaks system)
