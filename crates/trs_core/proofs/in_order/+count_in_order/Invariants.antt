use Rattle.std.proofs.Common.{◌≡◌, ◌+◌, ℕ, drop}
use Rattle.trs_defs.specs.Variable.{occurrences, occurrences_in_all}
use Rattle.trs_core.specs.InOrder.{times_below}
use Rattle.trs_core.specs.View.{tree, forest}
use Rattle.trs_core.proofs.in_order.+count_in_order.Given as goal

abbrev pub invariant-loop-arg : goal.invariant-loop-arg
invariant-loop-arg l = (v : ℕ)
    → times_below l.count v + occurrences_in_all v (forest (drop l.arg-index l.arg-items))
    ≡ times_below l.fn.count v + occurrences v (tree l.t)
