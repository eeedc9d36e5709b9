use Rattle.std.proofs.Common.{◌≤◌, ◌+◌, ◌-◌, length}
use Rattle.assign_search.specs.Continues.{Continues}
use Rattle.loop_find.specs.ApartRules.{AreCopies}
use Rattle.loop_find.specs.Links.{IsSound}
use Rattle.loop_find.proofs.Walked.{HasWalked}
use Rattle.loop_find.proofs.loops.find_loop.Given as goal

abbrev pub invariant-loop-next : goal.invariant-loop-next
invariant-loop-next g l = record {
  walked : HasWalked l.trs.rules l.next l.closures;
  sound : IsSound l.trs.arities l.closures;
  within : l.closures.attempts ≤ l.budget;
  copies : AreCopies l.trs.rules l.closures.copies.items;
  continues : Continues g.P.Stop l.fn.stop l.stop;
}

abbrev pub decreases-loop-next : goal.decreases-loop-next
decreases-loop-next g l = (l.budget - l.closures.attempts) + (length l.closures.links.items - l.next)
