use Rattle.std.proofs.Common.{refl}
use Rattle.trs_core.specs.View.{tree}
use Rattle.poly_lin.proofs.BehindZero.{itself_big}
use Rattle.poly_lin.proofs.EachCounts.{none_big}
use Rattle.poly_lin.proofs.too_big.has_big_if.Goals as goal

pub returns-then-is_big : goal.returns-then-is_big
returns-then-is_big g c = (
  λ _. itself_big (g.T.Coefficients.coefficient c.args.table.now) (tree c.args.t.now) (c.is_big.ensures.0 c.if-is_big.true),
  λ _. refl,
)

pub returns-then-counted-le-GREATEST_NUMBER : goal.returns-then-counted-le-GREATEST_NUMBER
returns-then-counted-le-GREATEST_NUMBER g c = (
  λ yes. absurd (cc),
  λ big. absurd (none_big (g.T.Coefficients.coefficient c.args.table.now) (tree c.args.t.now) c.args.counted c.requires
      c.if-counted-le-GREATEST_NUMBER.true big),
)
