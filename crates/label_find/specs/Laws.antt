-- What the finder of ranks finds meets the conditions of its kind of step.
use Rattle.std.specs.Prelude.{◌<◌, ◌^◌, ℕ, List, Ok, All}
use Rattle.trs_defs.specs.System.{System}
use Rattle.rewrite_core.specs.PlacedPeak.{PlacedPeak}
use Rattle.rewrite_core.specs.PathsOfJoin.{PathsOfJoin}
use Rattle.join_find.specs.crit_pairs.PeakList.{ListsPeaks}
use Rattle.rule_label.specs.Labelled.{label_conditions}
use Rattle.label_find.specs.LabelRow.{FindsLabel}

-- the ranks are below 2^63, as those of a well-made step, and meet with the paths the conditions of decreasing peaks
pub record IsLabelStep (system : System) (ranks : List ℕ) (joins : List PathsOfJoin) : Type 0 where
  pub well_made : All (λ r. r < 2 ^ 63) ranks
  pub conditions : label_conditions system ranks joins (Ok tt)

abbrev pub FoundLabelsApply : Type 0
FoundLabelsApply = (system : System) (peaks : List PlacedPeak) (budget : ℕ) (ranks : List ℕ) (joins : List PathsOfJoin) → ListsPeaks system.rules (Ok peaks)
    → FindsLabel system.rules peaks budget ranks joins → IsLabelStep system ranks joins
