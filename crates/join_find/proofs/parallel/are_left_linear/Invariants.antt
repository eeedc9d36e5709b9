use Rattle.std.proofs.Common.{take}
use Rattle.join_find.specs.ParallelRow.{AreLeftLinear}
use Rattle.join_find.proofs.parallel.are_left_linear.Given as goal

abbrev pub invariant-loop-rule : goal.invariant-loop-rule
invariant-loop-rule l = AreLeftLinear (take l.rule-index l.rule-items)
