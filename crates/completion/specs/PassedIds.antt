-- Marks of ids, with one for each number.
use Rattle.std.specs.Prelude.{◌≡◌, ℕ, List, slice_index_or}

-- the mark of the id, which is 0 where none was made
abbrev pub mark_of : List ℕ → ℕ → ℕ
mark_of marks id = slice_index_or marks id 0

-- the id has this mark now, and the others have theirs
abbrev pub IsMarked : ℕ → ℕ → List ℕ → List ℕ → Type 0
IsMarked id count old new = (mark_of new id ≡ count) × ((v : ℕ) → (v ≡ id → ⊥) → mark_of new v ≡ mark_of old v)
