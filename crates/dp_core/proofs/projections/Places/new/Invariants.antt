use Rattle.std.proofs.Common.{◌≤◌, length, drop}
use Rattle.dp_core.specs.Places.{ArePlacesOf}
use Rattle.dp_core.proofs.projections.Places.new.Given as goal

abbrev pub invariant-loop-i : goal.invariant-loop-i
invariant-loop-i l = (l.i ≤ length l.entries) × ArePlacesOf (drop l.i l.entries) l.by_symbol

abbrev pub decreases-loop-i : goal.decreases-loop-i
decreases-loop-i l = l.i
