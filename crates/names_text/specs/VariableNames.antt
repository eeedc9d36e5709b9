-- The names with which variables are written: underscores, more than any symbol's name begins with, and the number.
use Rattle.std.specs.Prelude.{ℕ, suc, ◌==◌, max, List, [], ◌∷◌, ◌++◌, replicate, decimal, if◌then◌else◌}

-- the number of underscores with which a name begins
abbrev pub leading_underscores : List ℕ → ℕ
leading_underscores [] = 0
leading_underscores (b ∷ bs) = if b == 95 then suc (leading_underscores bs) else 0

-- one more than the greatest number of underscores with which a name begins, or 1 where there is no name
abbrev pub underscores : List (List ℕ) → ℕ
underscores [] = 1
underscores (n ∷ ns) = max (suc (leading_underscores n)) (underscores ns)

-- so many underscores, and the number of the variable in decimal
abbrev pub variable_name : ℕ → ℕ → List ℕ
variable_name underscores v = replicate underscores 95 ++ decimal v
