use Rattle.std.proofs.Common.{◌≡◌}
use Rattle.term_pool.specs.Pooled.{Extends}
use Rattle.term_pool.specs.Instances.{AreInstances}
use Rattle.crit_pairs.specs.NumberedVariables.{AreVariableIds}
use Rattle.crit_pairs.specs.PooledSide.{value_of}
use Rattle.crit_pairs.proofs.PooledSides.{AreNoted}
use Rattle.crit_pairs.proofs.pooled_side.PooledSide.instance.Given as goal

abbrev pub invariant-loop-x : goal.invariant-loop-x
invariant-loop-x l = record {
  kept : Extends l.fn.pool l.pool;
  same : l.names.order.items ≡ l.fn.names.order.items;
  made : AreInstances (value_of l.bindings l.from l.fn.names.order.items) l.pool l.made;
  ids : AreVariableIds l.pool l.numbered;
  noted : AreNoted l.made l.x-items l.x-index;
}
