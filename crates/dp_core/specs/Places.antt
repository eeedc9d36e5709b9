-- The places of a projection in a table by symbol.
use Rattle.std.specs.Prelude.{◌≡◌, ℕ, List}
use Rattle.std.specs.Ordering.{nat_cmp}
use Rattle.std.specs.BTreeMap.{BTreeMap, get}
use Rattle.dp_core.specs.SubtermConditions.{place_for}

-- the table has for each symbol the place that the projection has
abbrev pub ArePlacesOf : List (ℕ × ℕ) → BTreeMap ℕ ℕ → Type 0
ArePlacesOf projection by_symbol = (f : ℕ) → get nat_cmp by_symbol f ≡ place_for projection f
