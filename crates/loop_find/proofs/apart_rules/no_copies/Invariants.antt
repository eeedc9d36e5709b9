use Rattle.std.proofs.Common.{◌≡◌, ℕ, Some, length, slice_get}
use Rattle.trs_defs.specs.System.{RewriteRule}
use Rattle.loop_find.proofs.apart_rules.no_copies.Given as goal

abbrev pub invariant-loop : goal.invariant-loop
invariant-loop l = record {
  count : length l.copies.items ≡ l.counter;
  none : (k : ℕ) (copy : RewriteRule) → slice_get l.copies.items k ≡ Some (Some copy) → ⊥;
}
