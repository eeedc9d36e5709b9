use Rattle.std.proofs.Common.{drop}
use Rattle.trs_core.specs.View.{tree, forest}
use Rattle.kbo_order.proofs.Sums.{Added}
use Rattle.kbo_order.proofs.Differences.{Remains}
use Rattle.kbo_order.proofs.comparing.+add_weight.Given as goal

abbrev pub invariant-loop-arg : goal.invariant-loop-arg
invariant-loop-arg g l = Added (g.W.Weighting.weights l.order) l.fn.weight (tree l.t) (forest (drop l.arg-index l.arg-items)) l.sum
    × Remains g.row.N l.from l.side (forest l.arg-items) (forest (drop l.arg-index l.arg-items)) l.fn.balances l.balances
