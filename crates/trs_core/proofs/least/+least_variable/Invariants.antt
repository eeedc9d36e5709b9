use Rattle.std.proofs.Common.{◌≡◌, drop}
use Rattle.trs_defs.specs.LeastVariable.{least_variable, least_of_all}
use Rattle.trs_core.specs.View.{tree, forest}
use Rattle.trs_core.proofs.least.+least_variable.Given as goal

abbrev pub invariant-loop-arg : goal.invariant-loop-arg
invariant-loop-arg l =
    least_of_all l.from l.least (forest (drop l.arg-index l.arg-items)) ≡ least_variable l.from l.fn.best (tree l.t)
