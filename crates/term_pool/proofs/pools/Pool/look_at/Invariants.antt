use Rattle.std.proofs.Common.{take}
use Rattle.term_pool.specs.Pooled.{Extends}
use Rattle.term_pool.specs.Known.{IsKnown}
use Rattle.term_pool.specs.ListedIds.{listed}
use Rattle.term_pool.specs.Reach.{AreReducts}
use Rattle.term_pool.specs.Reaching.{Adds}
use Rattle.term_pool.proofs.pools.Pool.look_at.Given as goal

abbrev pub invariant-loop-step : goal.invariant-loop-step
invariant-loop-step l = record {
  adds : Adds l.bounds.limit l.bounds.size (AreReducts l.by_root.rules l.bounds.size (listed l.fn.self l.entry) (take l.step-index l.step-items))
      l.fn.self l.self l.fn.reached l.reached;
  kept : Extends l.fn.self l.self;
  known : IsKnown l.by_root.rules l.self l.known;
}
