use Rattle.std.specs.Prelude.{◌≡◌, ◌≤◌, ◌*◌}
use Rattle.poly_find.specs.PolyPlaces.{parts_by, starts}
use Rattle.poly_find.proofs.PolySteps.{AreSoFar}
use Rattle.poly_find.proofs.table.interpretation.Given as goal

abbrev pub invariant-loop-f : goal.invariant-loop-f
invariant-loop-f l = record {
  begins : l.start ≡ starts (parts_by l.arities) l.symbols l.f-index;
  small : l.start ≤ 256 * l.f-index;
  made : AreSoFar l.arities l.symbols l.values l.f-index l.entries.items;
}
