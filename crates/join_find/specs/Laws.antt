-- What the finders find meets the conditions of its kind of step.
use Rattle.std.specs.Prelude.{List, Ok}
use Rattle.trs_defs.specs.System.{System}
use Rattle.trs_defs.specs.Path.{PlacedRule}
use Rattle.rewrite_core.specs.PlacedPeak.{PlacedPeak}
use Rattle.rewrite_core.specs.PathsOfJoin.{PathsOfJoin}
use Rattle.closed_pairs.specs.crit_pairs.PeakList.{ListsPeaks}
use Rattle.closed_pairs.specs.Joined.{newman_conditions}
use Rattle.closed_pairs.specs.StronglyClosed.{FourPaths, strong_conditions}
use Rattle.join_find.specs.NewmanRow.{FindsNewman}
use Rattle.closed_pairs.specs.ParallelClosed.{parallel_conditions}
use Rattle.join_find.specs.ParallelRow.{FindsParallel}
use Rattle.join_find.specs.StrongRow.{FindsStrong}

abbrev pub FoundJoinsJoin : Type 0
FoundJoinsJoin = (system : System) (peaks : List PlacedPeak) (items : List PathsOfJoin) → ListsPeaks system.rules (Ok peaks)
    → FindsNewman system.rules peaks items → newman_conditions system items (Ok tt)

abbrev pub FoundFoursJoin : Type 0
FoundFoursJoin = (system : System) (peaks : List PlacedPeak) (items : List FourPaths) → ListsPeaks system.rules (Ok peaks)
    → FindsStrong system.rules peaks items → strong_conditions system items (Ok tt)

abbrev pub FoundStepsClose : Type 0
FoundStepsClose = (system : System) (peaks : List PlacedPeak) (items : List (List PlacedRule)) → ListsPeaks system.rules (Ok peaks)
    → FindsParallel system.rules peaks items → parallel_conditions system items (Ok tt)
