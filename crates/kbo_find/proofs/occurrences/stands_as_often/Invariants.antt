use Rattle.kbo_find.proofs.Standing.{ComesTo}
use Rattle.kbo_find.proofs.occurrences.stands_as_often.Given as goal

abbrev pub invariant-loop-x : goal.invariant-loop-x
invariant-loop-x l = ComesTo l.many l.few l.x-index l.found
