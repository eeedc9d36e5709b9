use Rattle.std.proofs.Common.{◌≡◌, take}
use Rattle.dp_graph.specs.PlaceLists.{numbers_of}
use Rattle.dp_graph.proofs.places.numbers_at.Given as goal

abbrev pub invariant-loop-w : goal.invariant-loop-w
invariant-loop-w l = l.numbers.items ≡ numbers_of l.problem (take l.w-index l.places)
