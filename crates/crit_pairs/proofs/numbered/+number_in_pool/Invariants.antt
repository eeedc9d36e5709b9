use Rattle.std.proofs.Common.{◌≡◌, All, ◌<◌, ◌≤◌, length, map, take, drop}
use Rattle.trs_defs.specs.Size.{size_of}
use Rattle.trs_core.specs.View.{tree, forest}
use Rattle.term_pool.specs.Pooled.{Extends, tree_at}
use Rattle.trs_unify.proofs.NewNames.{AreRenaming}
use Rattle.crit_pairs.specs.NumberedVariables.{AreVariableIds}
use Rattle.crit_pairs.specs.Sides.{IsDistinct}
use Rattle.crit_pairs.proofs.numbered.+number_in_pool.Given as goal

abbrev pub invariant-loop-arg : goal.invariant-loop-arg
invariant-loop-arg l = record {
  distinct : IsDistinct l.names.order.items;
  kept : Extends l.fn.pool l.pool;
  ids : AreVariableIds l.pool l.numbered;
  behind : l.start ≤ length l.arguments.items;
  before : take l.start l.arguments.items ≡ l.fn.arguments.items;
  below : All (λ i. i < length l.pool) (drop l.start l.arguments.items);
  renaming : AreRenaming l.fn.names.order.items l.f (tree l.t) (map (tree_at l.pool) (drop l.start l.arguments.items)) l.names.order.items (forest (drop l.arg-index l.arg-items));
}

abbrev pub decreases-number_in_pool : goal.decreases-number_in_pool
decreases-number_in_pool l = size_of (tree l.t.now)
