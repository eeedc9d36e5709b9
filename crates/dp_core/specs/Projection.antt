-- An entry of a projection that agrees with the arities.
use Rattle.std.specs.Prelude.{◌≡◌, ℕ, ◌≤◌, List, Some, slice_get}

-- the place is from 1 to the symbol's arity
abbrev pub IsProjection : List ℕ → ℕ × ℕ → Type 0
IsProjection arities e = (n : ℕ) × (slice_get arities e.0 ≡ Some n) × (1 ≤ e.1) × (e.1 ≤ n)
