-- Which variables were met, of so many from a number on.
use Rattle.std.specs.Prelude.{◌≡◌, ◌≤◌, ◌<◌, ◌+◌, ℕ, Bool, true, false, List, slice_index_or, if◌then◌else◌}
use Rattle.trs_defs.specs.Tree.{Tree}
use Rattle.trs_defs.specs.Variable.{occurrences}

-- how often variable number i of these was met: once where it is marked
abbrev pub times_met : List Bool → ℕ → ℕ
times_met marks i = if slice_index_or marks i false then 1 else 0

module _ (size from : ℕ) where
  -- whether each variable of a term is met for the first time; then it is marked
  abbrev pub Marks : Tree → List Bool → List Bool → Bool → Type 0
  Marks t before after true = (i : ℕ) → i < size → times_met after i ≡ times_met before i + occurrences (from + i) t
  Marks t before after false = (i : ℕ) × (i < size) × (1 < times_met before i + occurrences (from + i) t)

  abbrev pub OccurOnce : Tree → Type 0
  OccurOnce t = (i : ℕ) → i < size → occurrences (from + i) t ≤ 1
