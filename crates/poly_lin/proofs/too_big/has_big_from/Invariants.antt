use Rattle.trs_core.specs.View.{tree}
use Rattle.poly_lin.proofs.Windows.{left}
use Rattle.poly_lin.specs.TooBig.{AreSmall}
use Rattle.poly_lin.proofs.too_big.has_big_from.Given as goal

abbrev pub invariant-loop-next : goal.invariant-loop-next
invariant-loop-next g l = AreSmall (g.T.Coefficients.coefficient l.table) (tree l.t) l.next

abbrev pub decreases-loop-next : goal.decreases-loop-next
decreases-loop-next g l = left l.next
