use Rattle.trs_core.specs.View.{tree}
use Rattle.loop_find.proofs.Recurrences.{NoneYet}
use Rattle.loop_find.proofs.instances.+may_hold.Given as goal

abbrev pub invariant-loop-arg : goal.invariant-loop-arg
invariant-loop-arg l = NoneYet (tree l.pattern) (tree l.t) l.arg-index
