use Rattle.std.proofs.Common.{◌+◌, ◌↔◌, drop}
use Rattle.trs_core.specs.View.{tree, forest}
use Rattle.dp_core.proofs.DefinedBelow.{HasNone, HaveNone}
use Rattle.dp_core.proofs.defined.+has_defined.Given as goal

abbrev pub invariant-loop-arg : goal.invariant-loop-arg
invariant-loop-arg l = HaveNone l.by_root.rules (l.arg-index + 1) (forest (drop l.arg-index l.arg-items)) ↔ HasNone l.by_root.rules (tree l.t)
