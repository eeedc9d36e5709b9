use Rattle.std.proofs.Common.{◌≡◌, ℕ, ◌||◌, drop}
use Rattle.std.specs.Ordering.{nat_cmp}
use Rattle.std.specs.BTreeSet.{contains}
use Rattle.trs_defs.specs.Variable.{has_var, some_has_var}
use Rattle.trs_core.specs.View.{tree, forest}
use Rattle.trs_caps.proofs.naming.+add_variables.Given as goal

abbrev pub invariant-loop-arg : goal.invariant-loop-arg
invariant-loop-arg l = (v : ℕ) → (contains nat_cmp l.own v || some_has_var v (forest (drop l.arg-index l.arg-items))) ≡ (contains nat_cmp l.fn.own v || has_var v (tree l.t))
