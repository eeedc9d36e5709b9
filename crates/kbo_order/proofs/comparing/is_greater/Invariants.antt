use Rattle.std.proofs.Common.{◌-◌, ◌^◌}
use Rattle.trs_core.specs.View.{tree}
use Rattle.kbo_order.proofs.Viewers.{SeenBelow}
use Rattle.kbo_order.proofs.comparing.is_greater.Given as goal

abbrev pub invariant-loop-x : goal.invariant-loop-x
invariant-loop-x g l = SeenBelow (g.W.Weighting.weights l.order) (g.W.Weighting.ranks l.order) (tree l.s) (tree l.t) l.from

abbrev pub decreases-loop-x : goal.decreases-loop-x
decreases-loop-x g l = 2 ^ 64 - l.from
