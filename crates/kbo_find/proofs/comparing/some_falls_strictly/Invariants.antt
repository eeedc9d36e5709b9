use Rattle.std.proofs.Common.{◌≡◌, drop, map}
use Rattle.order_search.specs.OrderSpace.{some_falls}
use Rattle.kbo_find.specs.KnuthTest.{knuth_strict}
use Rattle.kbo_find.specs.Balanced.{rule_of}
use Rattle.kbo_find.proofs.comparing.some_falls_strictly.Given as goal

abbrev pub invariant-loop-balance : goal.invariant-loop-balance
invariant-loop-balance g l =
    some_falls (knuth_strict (g.W.Weighting.weights l.order) (g.W.Weighting.ranks l.order)) (map rule_of (drop l.balance-index l.balances))
    ≡ some_falls (knuth_strict (g.W.Weighting.weights l.order) (g.W.Weighting.ranks l.order)) (map rule_of l.balances)
