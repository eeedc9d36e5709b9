use Rattle.trs_core.specs.View.{tree}
use Rattle.poly_lin.specs.Covering.{AreCovered}
use Rattle.poly_lin.proofs.Windows.{left}
use Rattle.poly_lin.proofs.covering.cover_rest.Given as goal

abbrev pub invariant-loop-next : goal.invariant-loop-next
invariant-loop-next g l = AreCovered (g.T.Coefficients.coefficient l.table) (tree l.a) (tree l.b) l.next

abbrev pub decreases-loop-next : goal.decreases-loop-next
decreases-loop-next g l = left l.next
