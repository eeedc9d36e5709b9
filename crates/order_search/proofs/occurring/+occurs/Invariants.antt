use Rattle.std.proofs.Common.{◌≡◌, drop}
use Rattle.trs_core.specs.View.{tree, forest}
use Rattle.order_search.specs.OrderSpace.{occurs_in, occurs_in_some}
use Rattle.order_search.proofs.occurring.+occurs.Given as goal

abbrev pub invariant-loop-arg : goal.invariant-loop-arg
invariant-loop-arg l = occurs_in_some l.f (forest (drop l.arg-index l.arg-items)) ≡ occurs_in l.f (tree l.t)
