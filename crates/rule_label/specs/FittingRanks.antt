-- Ranks that fit, as they are read one after another.
use Rattle.std.specs.Prelude.{◌↔◌, ℕ, Bool, true, false, List, ◌∷◌, Option, Some, None}
use Rattle.confluence_theory.specs.RanksFit.{AreBelowOne, RanksFit}

-- the ranks that are left fit, by whether the run of ranks below a has ended
abbrev pub FitAfter : Bool → ℕ → ℕ → List ℕ → Type 0
FitAfter false a b ranks = RanksFit a b ranks
FitAfter true a b ranks = AreBelowOne a b ranks

-- whether the run has ended after one more rank; none where no ranks fit that begin with it
abbrev pub IsNext : Bool → ℕ → ℕ → ℕ → Option Bool → Type 0
IsNext ended a b rank None = (later : List ℕ) → FitAfter ended a b (rank ∷ later) → ⊥
IsNext ended a b rank (Some next) = (later : List ℕ) → (FitAfter next a b later) ↔ (FitAfter ended a b (rank ∷ later))
