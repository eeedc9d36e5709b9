use Rattle.std.proofs.Common.{◌≡◌, drop}
use Rattle.trs_defs.specs.Variable.{has_var, some_has_var}
use Rattle.trs_core.specs.View.{tree, forest}
use Rattle.trs_core.proofs.terms.Term.+has_var.Given as goal

abbrev pub invariant-loop-arg : goal.invariant-loop-arg
invariant-loop-arg l = some_has_var l.v (forest (drop l.arg-index l.arg-items)) ≡ has_var l.v (tree l.self)
