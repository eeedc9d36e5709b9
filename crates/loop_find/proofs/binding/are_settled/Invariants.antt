use Rattle.loop_find.proofs.QuickUnifiers.{AreSettledTo}
use Rattle.loop_find.proofs.binding.are_settled.Given as goal

abbrev pub invariant-loop-binding : goal.invariant-loop-binding
invariant-loop-binding l = AreSettledTo l.found l.binding-index
