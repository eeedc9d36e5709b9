-- The places of symbols among others, by their numbers.
use Rattle.std.specs.Prelude.{◌≡◌, ℕ, List, Option, None, get_or}
use Rattle.dp_core.specs.pair_order.Entries.{place_among}

-- at the number of each symbol stands its place, and none at other numbers
abbrev pub ArePlaced : List ℕ → List (Option ℕ) → Type 0
ArePlaced symbols places = (f : ℕ) → get_or places f None ≡ place_among symbols f
