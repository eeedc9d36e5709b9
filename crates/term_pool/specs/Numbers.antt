-- The numbers of some items of a list.
use Rattle.std.specs.Prelude.{ℕ, ◌+◌, Bool, List, [], ◌∷◌, if◌then◌else◌}

-- the numbers of the items that pass the test, in order; the first item is number k
abbrev pub numbers_where : {T : Type 0} → (T → Bool) → ℕ → List T → List ℕ
numbers_where test k [] = []
numbers_where test k (x ∷ xs) = (if test x then k ∷ numbers_where test (k + 1) xs else numbers_where test (k + 1) xs)
