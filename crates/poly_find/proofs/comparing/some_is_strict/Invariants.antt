use Rattle.std.proofs.Common.{◌≡◌, drop}
use Rattle.order_search.specs.OrderSpace.{some_falls}
use Rattle.poly_find.specs.LinearTest.{linear_strict}
use Rattle.poly_find.proofs.comparing.some_is_strict.Given as goal

abbrev pub invariant-loop-k : goal.invariant-loop-k
invariant-loop-k g l =
    some_falls (linear_strict (g.T.Coefficients.coefficient l.table)) (drop l.k l.rules) ≡ some_falls (linear_strict (g.T.Coefficients.coefficient l.table)) l.rules
