-- The least symbol without an entry.
use Rattle.std.specs.Prelude.{◌≡◌, ◌<◌, ℕ, List, Option, Some, None}
use Rattle.trs_defs.specs.Member.{In}
use Rattle.dp_core.specs.SubtermConditions.{place_for}

-- one of the symbols, and there is no place for it
abbrev pub IsMissing : List (ℕ × ℕ) → List ℕ → ℕ → Type 0
IsMissing projection symbols f = In f symbols × (place_for projection f ≡ None)

-- the least of the symbols that are missing, if there is one
abbrev pub IsLeastMissing : List (ℕ × ℕ) → List ℕ → Option ℕ → Type 0
IsLeastMissing projection symbols None = (f : ℕ) → IsMissing projection symbols f → ⊥
IsLeastMissing projection symbols (Some n) =
    IsMissing projection symbols n × ((f : ℕ) → f < n → IsMissing projection symbols f → ⊥)
