use Rattle.loop_find.proofs.TokenWalks.{NoneBefore}
use Rattle.loop_find.proofs.recurring.may_recur.Given as goal

abbrev pub invariant-loop-start : goal.invariant-loop-start
invariant-loop-start l = NoneBefore l.pattern l.tokens l.start
