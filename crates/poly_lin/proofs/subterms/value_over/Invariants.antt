use Rattle.std.proofs.Common.{◌+◌, drop}
use Rattle.poly_lin.specs.Subterms.{term_of}
use Rattle.poly_lin.proofs.Numbering.{Summed}
use Rattle.poly_lin.proofs.subterms.value_over.Given as goal

abbrev pub invariant-loop-i : goal.invariant-loop-i
invariant-loop-i g l = Summed (g.T.Coefficients.coefficient l.table) l.values (drop l.i l.n-items) (term_of l.node) (l.i + 1) l.sum
