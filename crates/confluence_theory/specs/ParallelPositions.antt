-- Parallel positions, and paths at such. (Baader and Nipkow, definition 3.1.3.)
use Rattle.std.specs.Prelude.{◌≢◌, ◌⊎◌, ℕ, List, [], ◌∷◌}
use Rattle.trs_defs.specs.Path.{PlacedRule}

-- neither position is at or below the other
abbrev pub AreParallel : List ℕ → List ℕ → Type 0
AreParallel [] q = ⊥
AreParallel (a ∷ p) [] = ⊥
AreParallel (a ∷ p) (b ∷ q) = (a ≢ b) ⊎ AreParallel p q

-- each position of the path is parallel to p
abbrev pub IsParallelToAll : List ℕ → List PlacedRule → Type 0
IsParallelToAll p [] = Unit {0}
IsParallelToAll p (s ∷ path) = AreParallel p s.place × IsParallelToAll p path

-- each two positions of the path are parallel
abbrev pub ArePairwiseParallel : List PlacedRule → Type 0
ArePairwiseParallel [] = Unit {0}
ArePairwiseParallel (s ∷ path) = IsParallelToAll s.place path × ArePairwiseParallel path
