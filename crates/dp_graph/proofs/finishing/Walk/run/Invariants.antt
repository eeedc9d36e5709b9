use Rattle.std.proofs.Common.{ℕ, ◌≡◌, Some, true, slice_get}
use Rattle.dp_graph.specs.GraphConditions.{lists_of}
use Rattle.dp_graph.specs.Finishing.{IsWalkOf, effort_of}
use Rattle.dp_graph.proofs.finishing.Walk.run.Given as goal

abbrev pub invariant-loop-place : goal.invariant-loop-place
invariant-loop-place l = record {
  walk : IsWalkOf (lists_of l.rows) l.self;
  entered : slice_get l.self.entered.items l.start ≡ Some true;
  kept : (k : ℕ) → slice_get l.fn.self.entered.items k ≡ Some true → slice_get l.self.entered.items k ≡ Some true;
}

abbrev pub decreases-loop-place : goal.decreases-loop-place
decreases-loop-place l = effort_of (lists_of l.rows) l.self
