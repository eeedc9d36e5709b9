use Rattle.std.proofs.Common.{◌≡◌, All, take}
use Rattle.trs_core.specs.View.{tree}
use Rattle.term_pool.specs.Pooled.{StandsFor, Extends}
use Rattle.crit_pairs.specs.PooledSide.{HasOwnId, numbers_of}
use Rattle.crit_pairs.proofs.pooled_side.PooledSide.of.Given as goal

abbrev pub invariant-loop-number : goal.invariant-loop-number
invariant-loop-number l = record {
  kept : Extends l.fn.pool l.pool;
  stands : StandsFor l.pool l.id (tree l.t);
  ids : All (HasOwnId l.pool) l.variables.items;
  numbers : numbers_of l.variables.items ≡ take l.number-index l.number-items;
}
