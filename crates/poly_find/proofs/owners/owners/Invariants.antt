use Rattle.std.specs.Prelude.{◌≤◌, ◌*◌, length}
use Rattle.poly_find.proofs.Starts.{AreOfAll}
use Rattle.poly_find.proofs.owners.owners.Given as goal

abbrev pub invariant-loop-f : goal.invariant-loop-f
invariant-loop-f l = record {
  all : AreOfAll l.arities l.symbols l.f-index l.owners.items;
  few : length l.owners.items ≤ 256 * l.f-index;
}
