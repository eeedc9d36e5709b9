use Rattle.std.specs.Prelude.{reverse}
use Rattle.std.proofs.Common.{◌≡◌, ◌<◌, ◌++◌, ℕ, Some, slice_get, length}
use Rattle.loop_find.specs.Closures.{Closure}
use Rattle.loop_find.specs.Links.{closures_of, path_to}
use Rattle.loop_find.proofs.LinkLists.{steps_left}
use Rattle.loop_find.proofs.closures.Closures.path.Given as goal

abbrev pub invariant-loop-at : goal.invariant-loop-at
invariant-loop-at l = record {
  path : (c : Closure) → slice_get (closures_of l.self) l.number ≡ Some c → c.path ≡ path_to (closures_of l.self) l.at ++ reverse l.steps.items;
  below : (b : ℕ) → l.at ≡ Some b → b < length l.self.links.items;
}

abbrev pub decreases-loop-at : goal.decreases-loop-at
decreases-loop-at l = steps_left l.at
