use Rattle.std.proofs.Common.{◌≡◌, ◌++◌, drop}
use Rattle.rewrite_core.proofs.shifting.push_places.Given as goal

abbrev pub invariant-loop-place : goal.invariant-loop-place
invariant-loop-place l = l.position ++ drop l.place-index l.places ≡ l.initial.position ++ l.places
