-- Rows of words, which have numbers.
use Rattle.std.specs.Prelude.{◌≡◌, ◌++◌, ℕ, List, [], ◌∷◌, length, Some, Vec, slice_get}
use Rattle.std.specs.declared.alloc.Global.{Global}

-- row number n has these words
abbrev pub HasWords : List (Vec ℕ Global) → ℕ → List ℕ → Type 0
HasWords rows n words = (row : Vec ℕ Global) × (slice_get rows n ≡ Some row) × (row.items ≡ words)

-- rows keep their numbers
abbrev pub KeepWords : List (Vec ℕ Global) → List (Vec ℕ Global) → Type 0
KeepWords old new = (n : ℕ) (words : List ℕ) → HasWords old n words → HasWords new n words

-- a row is added as number n
pub record AddsRow (row : Vec ℕ Global) (n : ℕ) (old new : List (Vec ℕ Global)) : Type 0 where
  pub last : n ≡ length old
  pub rows : new ≡ old ++ row ∷ []
