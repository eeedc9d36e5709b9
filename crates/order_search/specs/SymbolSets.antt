-- Sets of symbols, as flags at the numbers of the symbols, as they grow.
use Rattle.std.specs.Prelude.{◌↔◌, ◌⊎◌, ℕ, Bool, false, List, IsTrue, slice_index_or}
use Rattle.std.specs.List.Sorted.{IsStrictlyIncreasing}
use Rattle.trs_defs.specs.Member.{In}

-- the symbol's flag is set
abbrev pub Has : List Bool → ℕ → Type 0
Has set f = IsTrue (slice_index_or set f false)

-- the new set has the members of the old one and these symbols
abbrev pub Adds : List Bool → List Bool → List ℕ → Type 0
Adds old new symbols = (f : ℕ) → Has new f ↔ (Has old f ⊎ In f symbols)

-- the set has just these symbols
abbrev pub HasOnly : List Bool → List ℕ → Type 0
HasOnly set symbols = (f : ℕ) → Has set f ↔ In f symbols

-- these are the members of the set, in ascending order
pub record AreMembers (set : List Bool) (members : List ℕ) : Type 0 where
  pub increasing : IsStrictlyIncreasing members
  pub each : (f : ℕ) → In f members ↔ Has set f
