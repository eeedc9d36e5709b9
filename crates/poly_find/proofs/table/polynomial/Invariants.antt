use Rattle.poly_find.proofs.Starts.{AreRead}
use Rattle.poly_find.proofs.table.polynomial.Given as goal

abbrev pub invariant-loop-i : goal.invariant-loop-i
invariant-loop-i l = AreRead l.values l.start l.parts l.i l.coefficients.items
