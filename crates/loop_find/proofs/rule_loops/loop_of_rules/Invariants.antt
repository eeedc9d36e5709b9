use Rattle.loop_find.proofs.RuleClosures.{LoopNoneAhead}
use Rattle.loop_find.proofs.rule_loops.loop_of_rules.Given as goal

abbrev pub invariant-loop-k : goal.invariant-loop-k
invariant-loop-k l = LoopNoneAhead l.trs.rules l.k
