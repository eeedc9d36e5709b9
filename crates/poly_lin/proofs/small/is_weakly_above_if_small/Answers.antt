use Rattle.trs_core.specs.View.{tree}
use Rattle.std.proofs.Common.{refl}
use Rattle.poly_lin.proofs.SmallDeciding.{not_weak, weak_if}
use Rattle.poly_lin.proofs.small.is_weakly_above_if_small.Goals as goal

pub returns-then-left-right : goal.returns-then-left-right
returns-then-left-right g c = λ none_big.
    not_weak (g.T.Coefficients.coefficient c.args.table.now) (tree c.args.a.now) (tree c.args.b.now) none_big c.saturated_value-left.result c.saturated_value-right.result
    c.saturated_value-left.ensures c.saturated_value-right.ensures _ refl c.if-left-right.true

pub returns : goal.returns
returns g c = λ none_big.
    weak_if (g.T.Coefficients.coefficient c.args.table.now) (tree c.args.a.now) (tree c.args.b.now) none_big c.saturated_value-left.result c.saturated_value-right.result
    c.saturated_value-left.ensures c.saturated_value-right.ensures c.covers.result c.covers.ensures c.if-left-right.false
