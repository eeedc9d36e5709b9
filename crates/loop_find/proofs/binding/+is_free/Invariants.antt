use Rattle.std.proofs.Common.{drop}
use Rattle.trs_core.specs.View.{tree, forest}
use Rattle.loop_find.proofs.QuickUnifiers.{IsFreeSoFar}
use Rattle.loop_find.proofs.binding.+is_free.Given as goal

abbrev pub invariant-loop-arg : goal.invariant-loop-arg
invariant-loop-arg l = IsFreeSoFar l.found (tree l.t) (forest (drop l.arg-index l.arg-items))
