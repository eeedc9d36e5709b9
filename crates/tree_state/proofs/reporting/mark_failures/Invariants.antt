use Rattle.std.proofs.Common.{◌≡◌, take}
use Rattle.tree_state.specs.Stuck.{failures}
use Rattle.tree_state.proofs.reporting.mark_failures.Given as goal

abbrev pub invariant-loop-place : goal.invariant-loop-place
invariant-loop-place l = l.failed.items ≡ failures (take l.place l.strategies) l.marks
