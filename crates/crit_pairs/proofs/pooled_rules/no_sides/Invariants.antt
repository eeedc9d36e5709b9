use Rattle.std.proofs.Common.{◌≡◌, ℕ, Some, length, slice_get}
use Rattle.crit_pairs.specs.declared.pooled_side.PooledSide.{PooledSide}
use Rattle.crit_pairs.proofs.pooled_rules.no_sides.Given as goal

abbrev pub invariant-loop : goal.invariant-loop
invariant-loop l = record {
  count : length l.sides.items ≡ l.counter;
  none : (k : ℕ) (side : PooledSide) → slice_get l.sides.items k ≡ Some (Some side) → ⊥;
}
