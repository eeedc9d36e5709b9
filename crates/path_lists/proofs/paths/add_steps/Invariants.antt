use Rattle.std.proofs.Common.{take}
use Rattle.term_pool.specs.Pooled.{Extends}
use Rattle.term_pool.specs.ListedIds.{listed}
use Rattle.term_pool.specs.Reach.{AreReducts}
use Rattle.path_lists.specs.Adding.{AddsPaths}
use Rattle.path_lists.proofs.paths.add_steps.Given as goal

abbrev pub invariant-loop-step : goal.invariant-loop-step
invariant-loop-step l = record {
  adds : AddsPaths (AreReducts l.trs.rules 4096 (listed l.fn.pool l.entry) (take l.step-index l.steps)) l.fn.pool l.pool l.fn.paths.items l.paths.items;
  kept : Extends l.fn.pool l.pool;
}
