use Rattle.std.proofs.Common.{ℕ, ◌≡◌, ◌<◌, [], Some, true, slice_get}
use Rattle.dp_graph.specs.GraphConditions.{lists_of}
use Rattle.dp_graph.specs.Finishing.{IsWalkOf}
use Rattle.dp_graph.proofs.finishing.finishing_order.Given as goal

abbrev pub invariant-loop-start : goal.invariant-loop-start
invariant-loop-start l = record {
  walk : IsWalkOf (lists_of l.rows) l.walk;
  way : l.walk.way.items ≡ [];
  entered : (k : ℕ) → k < l.start → slice_get l.walk.entered.items k ≡ Some true;
}
