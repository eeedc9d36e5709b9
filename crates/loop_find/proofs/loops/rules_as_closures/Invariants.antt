use Rattle.std.proofs.Common.{◌≡◌}
use Rattle.loop_find.specs.ApartRules.{AreCopies}
use Rattle.loop_find.specs.Links.{closures_of, IsSound}
use Rattle.loop_find.proofs.RuleClosures.{AreAhead}
use Rattle.loop_find.proofs.loops.rules_as_closures.Given as goal

abbrev pub invariant-loop-k : goal.invariant-loop-k
invariant-loop-k l = record {
  rules : AreAhead l.trs.rules l.k (closures_of l.closures);
  sound : IsSound l.trs.arities l.closures;
  attempts : l.closures.attempts ≡ 0;
  copies : AreCopies l.trs.rules l.closures.copies.items;
}
