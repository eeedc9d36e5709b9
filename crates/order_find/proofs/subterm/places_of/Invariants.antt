use Rattle.std.proofs.Common.{◌≡◌, ◌++◌, drop}
use Rattle.order_find.specs.SubtermRow.{places_of}
use Rattle.order_find.proofs.subterm.places_of.Given as goal

abbrev pub invariant-loop-i : goal.invariant-loop-i
invariant-loop-i l = places_of l.roots l.values ≡ l.places.items ++ places_of (drop l.i l.roots) (drop l.i l.values)
