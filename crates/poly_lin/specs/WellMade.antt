-- An entry of a table of linear polynomials that agrees with the arities and keeps the limits.
use Rattle.std.specs.Prelude.{◌≡◌, ℕ, ◌+◌, ◌<◌, ◌^◌, List, Some, length}
use Rattle.std.specs.List.{AllByRecursion}
use Rattle.order_theory.specs.KnuthBendix.{arity_with_marks}

-- a number for each argument of the symbol, and one more
abbrev pub IsLinearEntry : List ℕ → ℕ × List ℕ → Type 0
IsLinearEntry arities e =
    (n : ℕ) × (arity_with_marks arities e.0 ≡ Some n) × (length e.1 ≡ n + 1) × AllByRecursion (λ c. c < 2 ^ 63) e.1
