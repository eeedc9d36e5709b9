-- The critical peaks, for a step that has so many items.
use Rattle.std.specs.Prelude.{◌≡◌, ℕ, List, length}
use Rattle.trs_defs.specs.System.{RewriteRule}
use Rattle.rewrite_core.specs.declared.checks.refusals.StepRefused.TheVariants.{Count}
use Rattle.rewrite_core.specs.PlacedPeak.{PlacedPeak}
use Rattle.rewrite_core.specs.Check.{Check, Needs, Returns, ◌>>=◌, ◌>>◌}
use Rattle.crit_pairs.specs.PeaksCheck.{ListsCriticalPeaks}

-- the critical peaks, of which there must be so many
abbrev pub peaks_for : List RewriteRule → ℕ → Check (List PlacedPeak)
peaks_for rules items = do
  peaks ← ListsCriticalPeaks rules
  Needs (items ≡ length peaks) (Count (length peaks) items)
  Returns peaks
