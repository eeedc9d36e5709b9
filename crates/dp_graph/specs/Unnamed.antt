-- The pairs of a problem that no item names yet.
use Rattle.std.specs.Prelude.{◌≡◌, ◌↔◌, ℕ, false, List, Option, Some, None, Result, Ok, Err, slice_get}
use Rattle.std.specs.List.Sorted.{IsStrictlyIncreasing}
use Rattle.trs_defs.specs.Member.{In}
use Rattle.rewrite_core.specs.declared.checks.refusals.StepRefused.{StepRefused}
use Rattle.rewrite_core.specs.declared.checks.refusals.StepRefused.TheVariants.{Missing}
use Rattle.dp_graph.specs.declared.unnamed.Unnamed.{Unnamed}

-- pair number n stands at place k, and is not named
abbrev pub IsUnnamedAt : Unnamed → ℕ → ℕ → Type 0
IsUnnamedAt pairs n k = (slice_get pairs.numbers.items k ≡ Some n) × (slice_get pairs.named.items k ≡ Some false)

-- the pairs are in order, and those of them are not named that are pairs of the problem and not among these
pub record AreUnnamed (numbers named : List ℕ) (pairs : Unnamed) : Type 0 where
  pub ascending : IsStrictlyIncreasing pairs.numbers.items
  pub exact : (n : ℕ) → ((k : ℕ) × IsUnnamedAt pairs n k) ↔ (In n numbers × (In n named → ⊥))

-- what is answered where the least pair that is not named is this one, or there is none
abbrev pub least_missing : Option ℕ → Result (Unit {0}) StepRefused
least_missing None = Ok tt
least_missing (Some n) = Err (Missing n)
