use Rattle.std.proofs.Common.{◌≡◌, drop}
use Rattle.order_search.specs.OrderSpace.{some_falls}
use Rattle.lpo_find.specs.LpoSpace.{path_strict}
use Rattle.lpo_find.proofs.comparing.some_falls_strictly.Given as goal

abbrev pub invariant-loop-rule : goal.invariant-loop-rule
invariant-loop-rule g l =
    some_falls (path_strict (g.P.Precedence.ranks l.order) (g.P.Precedence.filters l.order)) (drop l.rule-index l.rules)
    ≡ some_falls (path_strict (g.P.Precedence.ranks l.order) (g.P.Precedence.filters l.order)) l.rules
