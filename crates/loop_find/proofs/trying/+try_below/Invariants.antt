use Rattle.std.proofs.Common.{◌≡◌, ◌+◌, ◌≤◌, ◌++◌, Some, slice_get, map, drop, length}
use Rattle.trs_defs.specs.Size.{size_of}
use Rattle.trs_core.specs.View.{tree, forest}
use Rattle.term_pool.specs.Redexes.{AreNarrow}
use Rattle.crit_pairs.specs.PeakList.{symbol_places}
use Rattle.assign_search.specs.Continues.{Continues}
use Rattle.loop_find.specs.Closures.{Closure, attempts_of}
use Rattle.loop_find.specs.Links.{closures_of}
use Rattle.loop_find.specs.Trials.{IsTrial}
use Rattle.loop_find.proofs.Tried.{Going, attempts_below}
use Rattle.loop_find.proofs.trying.+try_below.Given as goal

abbrev pub invariant-loop-i : goal.invariant-loop-i
invariant-loop-i g l = record {
  going : (c : Closure) → slice_get (closures_of l.fn.closures) l.trial.number ≡ Some c
      → Going l.trial.trs.now.rules l.trial.budget (attempts_of l.trial.trs.now.rules c (map (λ q. l.fn.place.items ++ q) (symbol_places (tree l.part))))
      l.fn.closures l.closures (attempts_below l.trial.trs.now.rules c l.fn.place.items (l.i + 1) (forest (drop l.i l.arg-items)));
  trial : IsTrial l.trial l.closures;
  narrow : AreNarrow (forest (drop l.i l.arg-items));
  few : length l.arg-items ≤ 255;
  same : l.place.items ≡ l.fn.place.items;
  continues : Continues g.P.Stop l.fn.stop l.stop;
}

abbrev pub decreases-try_below : goal.decreases-try_below
decreases-try_below g l = size_of (tree l.part.now)
