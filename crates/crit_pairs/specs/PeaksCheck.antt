-- The critical peaks of a system, as a condition of a step of a proof.
use Rattle.std.specs.Prelude.{List, Result, Ok, Err}
use Rattle.trs_defs.specs.System.{RewriteRule}
use Rattle.rewrite_core.specs.declared.checks.refusals.StepRefused.{StepRefused}
use Rattle.rewrite_core.specs.declared.checks.refusals.StepRefused.TheVariants.{PeaksTooLarge, PeaksTooMany}
use Rattle.rewrite_core.specs.declared.checks.refusals.CheckFault.{CheckFault}
use Rattle.rewrite_core.specs.declared.checks.refusals.CheckFault.TheVariants.{Refused, OutOfMemory}
use Rattle.rewrite_core.specs.PlacedPeak.{PlacedPeak}
use Rattle.crit_pairs.specs.PeakList.{ListsPeaks}
use Rattle.crit_pairs.specs.declared.faults.PeakFault.{PeakFault}
use Rattle.crit_pairs.specs.declared.faults.PeakFault.TheVariants as fault

-- the critical peaks must keep the limits, and their list is the value
pub data ListsCriticalPeaks (rules : List RewriteRule) : Result (List PlacedPeak) StepRefused → Type 0 where
  listed : (peaks : List PlacedPeak) → ListsPeaks rules (Ok peaks) → ListsCriticalPeaks rules (Ok peaks)
  too_large : ListsPeaks rules (Err fault.TooLarge) → ListsCriticalPeaks rules (Err PeaksTooLarge)
  too_many : ListsPeaks rules (Err fault.TooMany) → ListsCriticalPeaks rules (Err PeaksTooMany)

-- what a check answers where the critical peaks are not listed
abbrev pub peaks_refusal : PeakFault → CheckFault
peaks_refusal fault.TooLarge = Refused PeaksTooLarge
peaks_refusal fault.TooMany = Refused PeaksTooMany
peaks_refusal fault.OutOfMemory = OutOfMemory
