-- The ranks along one side of a peak of two steps. (Van Oostrom, Confluence by decreasing diagrams, 2008.)
use Rattle.std.specs.Prelude.{◌≡◌, ◌<◌, ◌⊎◌, ℕ, List, [], ◌∷◌}

-- each rank is below a or below b
abbrev pub AreBelowOne : ℕ → ℕ → List ℕ → Type 0
AreBelowOne a b [] = Unit {0}
AreBelowOne a b (c ∷ ranks) = ((c < a) ⊎ (c < b)) × AreBelowOne a b ranks

-- ranks below a, then at most one rank b, then ranks below a or below b
abbrev pub RanksFit : ℕ → ℕ → List ℕ → Type 0
RanksFit a b [] = Unit {0}
RanksFit a b (c ∷ ranks) =
    ((c < a) × RanksFit a b ranks) ⊎ (((c ≡ b) × AreBelowOne a b ranks) ⊎ AreBelowOne a b (c ∷ ranks))
