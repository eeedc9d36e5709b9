use Rattle.std.proofs.Common.{◌≡◌, take}
use Rattle.term_pool.specs.Pooled.{tree_at}
use Rattle.join_find.specs.Near.{HasNear}
use Rattle.join_find.proofs.near.near.Given as goal

abbrev pub invariant-loop-step : goal.invariant-loop-step
invariant-loop-step l = record {
  near : HasNear l.by_root.rules l.pool (tree_at l.pool l.id) l.id (take l.step-index l.step-items) l.near.items;
  same : l.pool ≡ l.initial.pool;
}
