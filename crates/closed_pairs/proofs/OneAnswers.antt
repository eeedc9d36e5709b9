-- Each of the conditions has at most one answer, on peaks that are handed in, and where the critical peaks are listed once.
use Rattle.std.specs.Prelude.{List}
use Rattle.trs_defs.specs.System.{System, IsSystem}
use Rattle.trs_defs.specs.Path.{PlacedRule}
use Rattle.rewrite_core.specs.PlacedPeak.{PlacedPeak}
use Rattle.rewrite_core.specs.PathsOfJoin.{PathsOfJoin}
use Rattle.rewrite_core.specs.Check.{HasOneAnswer}
use Rattle.rewrite_core.proofs.CheckLaws.{once}
use Rattle.crit_pairs.specs.PeaksCheck.{ListsCriticalPeaks}
use Rattle.closed_pairs.specs.Joined.{are_joined, newman_conditions}
use Rattle.closed_pairs.specs.ParallelClosed.{parallel_conditions_on, parallel_conditions}
use Rattle.closed_pairs.specs.StronglyClosed.{FourPaths, strong_conditions_on, strong_conditions}

module _ (system : System) (peaks : List PlacedPeak) where
  pub joins_once : (items : List PathsOfJoin) → IsSystem system → HasOneAnswer (are_joined system.rules peaks items)
  joins_once items valid = search once depth 20

  pub parallel_steps_once : (items : List (List PlacedRule)) → IsSystem system → HasOneAnswer (parallel_conditions_on system.rules peaks items)
  parallel_steps_once items valid = search once depth 20

  pub strong_joins_once : (items : List FourPaths) → IsSystem system → HasOneAnswer (strong_conditions_on system.rules peaks items)
  strong_joins_once items valid = search once depth 20

module _ (peaks_once : (system : System) → IsSystem system → HasOneAnswer (ListsCriticalPeaks system.rules)) (system : System) where
  pub newman_once : (items : List PathsOfJoin) → IsSystem system → HasOneAnswer (newman_conditions system items)
  newman_once items valid = search (once, peaks_once) depth 20

  pub parallel_once : (items : List (List PlacedRule)) → IsSystem system → HasOneAnswer (parallel_conditions system items)
  parallel_once items valid = search (once, peaks_once) depth 20

  pub strong_once : (items : List FourPaths) → IsSystem system → HasOneAnswer (strong_conditions system items)
  strong_once items valid = search (once, peaks_once) depth 20
