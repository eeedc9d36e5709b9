-- Numbers in ascending order, each once.
use Rattle.std.specs.Prelude.{◌↔◌, ℕ, List}
use Rattle.std.specs.List.Sorted.{IsStrictlyIncreasing}
use Rattle.trs_defs.specs.Member.{In}

-- these are the numbers of the other list, in ascending order
pub record AreAscending (listed ascending : List ℕ) : Type 0 where
  pub increasing : IsStrictlyIncreasing ascending
  pub each : (n : ℕ) → In n ascending ↔ In n listed
