use Rattle.std.proofs.Common.{◌↔◌, drop}
use Rattle.trs_defs.specs.WellFormed.{IsWellFormed, AreWellFormed}
use Rattle.trs_core.specs.View.{tree, forest}
use Rattle.trs_core.proofs.checking.+is_well_formed.Given as goal

abbrev pub invariant-loop-arg : goal.invariant-loop-arg
invariant-loop-arg l = AreWellFormed l.arities (forest (drop l.arg-index l.arg-items)) ↔ IsWellFormed l.arities (tree l.t)
