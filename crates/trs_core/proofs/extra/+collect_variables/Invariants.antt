use Rattle.std.proofs.Common.{◌≡◌, ℕ, ◌||◌, drop}
use Rattle.trs_core.specs.VariableSet.{holds}
use Rattle.trs_defs.specs.Variable.{has_var, some_has_var}
use Rattle.trs_core.specs.View.{tree, forest}
use Rattle.trs_core.proofs.extra.+collect_variables.Given as goal

abbrev pub invariant-loop-arg : goal.invariant-loop-arg
invariant-loop-arg l =
    (v : ℕ)
    → (holds l.known v || some_has_var v (forest (drop l.arg-index l.arg-items)))
    ≡ (holds l.fn.known v || has_var v (tree l.t))
