use Rattle.std.proofs.Common.{ℕ, ◌<◌, ◌↔◌, IsTrue, drop}
use Rattle.trs_defs.specs.Variable.{some_has_var}
use Rattle.trs_core.specs.SystemLimits.{HasSmallVariables}
use Rattle.trs_core.specs.View.{tree, forest}
use Rattle.trs_core.proofs.checking.+has_small_variables.Given as goal

abbrev pub invariant-loop-arg : goal.invariant-loop-arg
invariant-loop-arg l =
    ((v : ℕ) → IsTrue (some_has_var v (forest (drop l.arg-index l.arg-items))) → v < 65536) ↔ HasSmallVariables (tree l.t)
