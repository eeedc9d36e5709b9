use Rattle.std.proofs.Common.{ℕ, ◌≡◌, ◌<◌, Some, slice_get}
use Rattle.join_find.specs.CommonIds.{Reached}
use Rattle.join_find.proofs.common.path_of.Given as goal

abbrev pub invariant-loop-entry : goal.invariant-loop-entry
invariant-loop-entry l = (k : ℕ) (e : Reached) → k < l.entry-index → slice_get l.entries k ≡ Some e → e.0 ≡ l.id → ⊥
