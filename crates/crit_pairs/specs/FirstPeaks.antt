-- The first critical peaks of a system.
use Rattle.std.specs.Prelude.{◌≡◌, ℕ, List, Ok, length, take}
use Rattle.trs_defs.specs.System.{RewriteRule}
use Rattle.rewrite_core.specs.PlacedPeak.{PlacedPeak}
use Rattle.crit_pairs.specs.PeaksCheck.{ListsCriticalPeaks}
use Rattle.crit_pairs.specs.declared.peaks_check.FirstPeaks.{FirstPeaks}

-- the critical peaks are so many, and the first ones of them, so many at most, are these
pub record AreFirst (rules : List RewriteRule) (most : ℕ) (found : FirstPeaks) : Type 0 where
  pub all : List PlacedPeak
  pub lists : ListsCriticalPeaks rules (Ok all)
  pub counted : found.count ≡ length all
  pub first : found.peaks.items ≡ take most all
