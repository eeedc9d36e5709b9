use Rattle.lpo_find.proofs.Places.{StandsSoFar}
use Rattle.lpo_find.proofs.filters.places_but.Given as goal

abbrev pub invariant-loop-i : goal.invariant-loop-i
invariant-loop-i l = StandsSoFar l.left_out l.arity l.i l.places.items
