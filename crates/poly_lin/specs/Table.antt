-- What a table of linear polynomials says of each symbol.
use Rattle.std.specs.Prelude.{ℕ, List, [], ◌∷◌, Option, Some, None, ◌==◌, if◌then◌else◌, slice_index}
use Rattle.pair_order.specs.Entries.{entry_of}

abbrev pub symbol_of : ℕ × List ℕ → ℕ
symbol_of e = e.0

abbrev pub polynomial_of : Option (ℕ × List ℕ) → List ℕ
polynomial_of None = []
polynomial_of (Some e) = e.1

-- the polynomial of a symbol, [c0, c1, .., cn] for c0 + c1 x1 + .. + cn xn; the pairing 8191 stands for x1 + x2
abbrev pub polynomial : List (ℕ × List ℕ) → ℕ → List ℕ
polynomial entries f = if f == 8191 then 0 ∷ 1 ∷ 1 ∷ [] else polynomial_of (entry_of symbol_of entries f)

-- its coefficient of argument i, counted from 1, or the constant at 0; a missing one is read as 0
abbrev pub coefficient_in : List (ℕ × List ℕ) → ℕ → ℕ → ℕ
coefficient_in entries f i = slice_index (polynomial entries f) i
