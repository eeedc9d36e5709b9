-- Lists without repetition.
use Rattle.std.specs.Prelude.{◌≡◌, ◌<◌, ℕ, List, length, get_or}

-- no number stands at two places
abbrev pub AreDistinct : List ℕ → Type 0
AreDistinct ns = (i j : ℕ) → i < j → j < length ns → get_or ns i 0 ≡ get_or ns j 0 → ⊥
