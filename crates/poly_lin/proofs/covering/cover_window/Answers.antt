use Rattle.std.proofs.Common.{subst}
use Rattle.trs_core.specs.View.{tree}
use Rattle.poly_lin.specs.Covering.{AreCovered}
use Rattle.poly_lin.proofs.Windows.{sums_are, more_covered}
use Rattle.poly_lin.proofs.covering.cover_window.Goals as goal

pub returns-clause-covered : goal.returns-clause-covered
returns-clause-covered g c = λ before.
    more_covered (g.T.Coefficients.coefficient c.args.table.now) (tree c.args.a.now) (tree c.args.b.now) g.row.W c.in-Some.first c.add_coefficients-next.new.sums
    (sums_are (g.T.Coefficients.coefficient c.args.table.now) g.row.W c.in-Some.first (tree c.args.b.now) c.add_coefficients-next.new.sums c.add_coefficients-next.ensures.added)
    c.add_coefficients-next.result (subst (AreCovered (g.T.Coefficients.coefficient c.args.table.now) (tree c.args.a.now) (tree c.args.b.now)) c.in-Some.is before)
    (c.covers_these.ensures.0 c.if-not-covers_these.false) c.add_coefficients-next.ensures.next
