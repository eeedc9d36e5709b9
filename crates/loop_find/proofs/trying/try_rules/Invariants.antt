use Rattle.std.proofs.Common.{◌≡◌, Some, slice_get, drop}
use Rattle.assign_search.specs.Continues.{Continues}
use Rattle.loop_find.specs.Closures.{Closure, attempts_at}
use Rattle.loop_find.specs.Links.{closures_of}
use Rattle.loop_find.specs.Trials.{IsTrial}
use Rattle.loop_find.proofs.Tried.{Going}
use Rattle.loop_find.proofs.trying.try_rules.Given as goal

abbrev pub invariant-loop-k : goal.invariant-loop-k
invariant-loop-k g l = record {
  going : (c : Closure) → slice_get (closures_of l.fn.closures) l.trial.number ≡ Some c
      → Going l.trial.trs.now.rules l.trial.budget (attempts_at c l.place 0 l.trial.trs.now.rules)
      l.fn.closures l.closures (attempts_at c l.place l.k (drop l.k l.trial.trs.now.rules));
  trial : IsTrial l.trial l.closures;
  continues : Continues g.P.Stop l.fn.stop l.stop;
}
