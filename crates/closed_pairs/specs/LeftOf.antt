-- Positions that stand to the left of others.
use Rattle.std.specs.Prelude.{◌≡◌, ◌<◌, ◌⊎◌, ℕ, List, [], ◌∷◌}

-- p has a smaller place where they first differ: it stands before q in preorder, and is parallel to it
abbrev pub IsLeftOf : List ℕ → List ℕ → Type 0
IsLeftOf [] q = ⊥
IsLeftOf (a ∷ p) [] = ⊥
IsLeftOf (a ∷ p) (b ∷ q) = (a < b) ⊎ ((a ≡ b) × IsLeftOf p q)
