-- The conditions on decreasing peaks have at most one answer, on peaks that are handed in, and where the critical peaks are listed once.
use Rattle.std.specs.Prelude.{ℕ, List}
use Rattle.trs_defs.specs.System.{System, IsSystem}
use Rattle.rewrite_core.specs.PlacedPeak.{PlacedPeak}
use Rattle.rewrite_core.specs.PathsOfJoin.{PathsOfJoin}
use Rattle.rewrite_core.specs.Check.{HasOneAnswer}
use Rattle.rewrite_core.proofs.CheckLaws.{once}
use Rattle.closed_pairs.specs.crit_pairs.PeaksCheck.{ListsCriticalPeaks}
use Rattle.rule_label.specs.Labelled.{label_conditions_on, label_conditions}

module _ (system : System) (peaks : List PlacedPeak) where
  pub labels_once : (ranks : List ℕ) (items : List PathsOfJoin) → IsSystem system → HasOneAnswer (label_conditions_on system.rules peaks ranks items)
  labels_once ranks items valid = search once depth 20

module _ (peaks_once : (system : System) → IsSystem system → HasOneAnswer (ListsCriticalPeaks system.rules)) (system : System) where
  pub label_once : (ranks : List ℕ) (items : List PathsOfJoin) → IsSystem system → HasOneAnswer (label_conditions system ranks items)
  label_once ranks items valid = search (once, peaks_once) depth 20
