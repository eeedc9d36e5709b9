use Rattle.std.proofs.Common.{◌+◌, refl}
use Rattle.trs_core.specs.View.{tree}
use Rattle.order_theory.specs.LinearInterpretation.{coefficient}
use Rattle.poly_lin.proofs.Windows.{these_covered, none_to_cover}
use Rattle.poly_lin.proofs.covering.covers_these.Goals as goal

pub returns-then-are_at_least : goal.returns-then-are_at_least
returns-then-are_at_least g c = (
  λ yes. none_to_cover g.row.W c.args.right.now (λ i. coefficient (g.T.Coefficients.coefficient c.args.table.now) (c.args.from + i) (tree c.args.a.now))
      (c.are_at_least.ensures.0 c.if-are_at_least.true),
  λ all. refl,
)

pub returns : goal.returns
returns g c =
    these_covered (g.T.Coefficients.coefficient c.args.table.now) g.row.W c.args.from (tree c.args.a.now) c.add_coefficients.new.sums
    c.add_coefficients.ensures.added c.args.right.now c.are_at_least-2.result c.are_at_least-2.ensures
