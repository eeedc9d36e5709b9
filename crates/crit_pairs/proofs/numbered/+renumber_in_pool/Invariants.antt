use Rattle.std.proofs.Common.{◌≡◌, All, ◌<◌, ◌≤◌, length, map, take, drop}
use Rattle.trs_defs.specs.Substitution.{apply, apply_all}
use Rattle.trs_core.specs.View.{tree, forest}
use Rattle.term_pool.specs.Pooled.{Extends, tree_at}
use Rattle.trs_unify.proofs.NewNames.{AreRenaming}
use Rattle.crit_pairs.specs.Meeting.{put_in}
use Rattle.crit_pairs.specs.NumberedVariables.{AreVariableIds}
use Rattle.crit_pairs.specs.Sides.{IsDistinct}
use Rattle.crit_pairs.proofs.PutIn.{measure}
use Rattle.crit_pairs.proofs.numbered.+renumber_in_pool.Given as goal

abbrev pub invariant-loop-arg : goal.invariant-loop-arg
invariant-loop-arg l = record {
  distinct : IsDistinct l.names.order.items;
  kept : Extends l.fn.pool l.pool;
  ids : AreVariableIds l.pool l.numbered;
  behind : l.start ≤ length l.arguments.items;
  before : take l.start l.arguments.items ≡ l.fn.arguments.items;
  below : All (λ i. i < length l.pool) (drop l.start l.arguments.items);
  renaming : AreRenaming l.fn.names.order.items l.f (apply (put_in l.levels l.bindings.list.items) (tree l.t)) (map (tree_at l.pool) (drop l.start l.arguments.items)) l.names.order.items (apply_all (put_in l.levels l.bindings.list.items) (forest (drop l.arg-index l.arg-items)));
}

abbrev pub decreases-renumber_in_pool : goal.decreases-renumber_in_pool
decreases-renumber_in_pool l = measure l.levels l.bindings.now.list.items (tree l.t.now)
