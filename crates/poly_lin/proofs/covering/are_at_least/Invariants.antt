use Rattle.std.proofs.Common.{ℕ, ◌-◌, ◌≤◌, ◌<◌, ◌^◌, min, slice_index}
use Rattle.poly_lin.proofs.covering.are_at_least.Given as goal

abbrev pub invariant-loop-i : goal.invariant-loop-i
invariant-loop-i g l = (j : ℕ) → j < l.i → min (slice_index l.right j) (2 ^ 64 - 1) ≤ min (slice_index l.left j) (2 ^ 64 - 1)
