use Rattle.std.proofs.Common.{refl}
use Rattle.trs_core.specs.View.{tree}
use Rattle.poly_lin.proofs.ValueLaws.{not_big, big_constant, big_if}
use Rattle.poly_lin.proofs.too_big.is_big.Goals as goal

pub returns-then-saturated_value-le-GREATEST_NUMBER : goal.returns-then-saturated_value-le-GREATEST_NUMBER
returns-then-saturated_value-le-GREATEST_NUMBER g c = (
  λ yes. absurd (cc),
  λ big. absurd (not_big (g.T.Coefficients.coefficient c.args.table.now) (tree c.args.t.now) c.saturated_value.result c.saturated_value.ensures
      c.if-saturated_value-le-GREATEST_NUMBER.true big),
)

pub returns-then-saturated_value-gt-GREATEST_NUMBER : goal.returns-then-saturated_value-gt-GREATEST_NUMBER
returns-then-saturated_value-gt-GREATEST_NUMBER g c = (
  λ _. big_constant (g.T.Coefficients.coefficient c.args.table.now) (tree c.args.t.now) c.saturated_value-2.result c.saturated_value-2.ensures
      c.if-saturated_value-gt-GREATEST_NUMBER.true,
  λ _. refl,
)

pub returns : goal.returns
returns g c =
    big_if (g.T.Coefficients.coefficient c.args.table.now) (tree c.args.t.now) c.saturated_value-2.result c.saturated_value-2.ensures
    c.if-saturated_value-gt-GREATEST_NUMBER.false c.has_big_variable.result c.has_big_variable.ensures
