-- The list of critical peaks covers the system, and there is one.
use Rattle.std.specs.Prelude.{List, Ok, map}
use Rattle.trs_defs.specs.System.{System, IsSystem}
use Rattle.confluence_theory.specs.Peak.{Covers}
use Rattle.rewrite_core.specs.PlacedPeak.{PlacedPeak}
use Rattle.rewrite_core.specs.Check.{HasOneAnswer}
use Rattle.crit_pairs.specs.PlainPeak.{plain}
use Rattle.crit_pairs.specs.PeakList.{ListsPeaks}
use Rattle.crit_pairs.specs.PeaksCheck.{ListsCriticalPeaks}

-- a list of all critical peaks covers the system
abbrev pub ListedPeaksCover : Type 0
ListedPeaksCover = (system : System) (peaks : List PlacedPeak) → IsSystem system → ListsPeaks system.rules (Ok peaks) → Covers system.rules (map plain peaks)

-- the critical peaks of a system have one list, or pass the limits for one reason
abbrev pub PeaksAreListedOnce : Type 0
PeaksAreListedOnce = (system : System) → IsSystem system → HasOneAnswer (ListsCriticalPeaks system.rules)
