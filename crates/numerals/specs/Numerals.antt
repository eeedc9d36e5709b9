-- Decimal numerals.
use Rattle.std.specs.Prelude.{ℕ, ◌+◌, ◌-◌, ◌*◌, ◌&&◌, ◌==◌, nat_le, List, [], ◌∷◌, Option, Some, None, if◌then◌else◌}
use Rattle.std.specs.Char.{is_ascii_digit}

-- the number that further digits write behind one that was read, if it stays within the limit
abbrev pub digits_behind : ℕ → ℕ → List ℕ → Option ℕ
digits_behind limit n [] = Some n
digits_behind limit n (d ∷ ds) =
    if is_ascii_digit d && nat_le (n * 10 + (d - 48)) limit then digits_behind limit (n * 10 + (d - 48)) ds else None

-- the value of a run of digits, if it is at most the limit
abbrev pub digits_value : ℕ → List ℕ → Option ℕ
digits_value limit [] = None
digits_value limit (d ∷ ds) = digits_behind limit 0 (d ∷ ds)

-- the value of digits that no zero leads, if it is at most the limit
abbrev pub numeral_value : ℕ → List ℕ → Option ℕ
numeral_value limit [] = None
numeral_value limit (d ∷ []) = digits_value limit (d ∷ [])
numeral_value limit (d ∷ e ∷ ds) = if d == 48 then None else digits_value limit (d ∷ e ∷ ds)
