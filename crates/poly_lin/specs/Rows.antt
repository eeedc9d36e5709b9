-- The polynomials of a table by the rows at which they stand.
use Rattle.std.specs.Prelude.{ℕ, List, [], ◌∷◌, slice_get}
use Rattle.poly_lin.specs.Table.{polynomial_of}
use Rattle.poly_lin.specs.declared.rows.Row.{Row}
use Rattle.poly_lin.specs.declared.rows.Row.TheVariants.{Pairing, Entry, Missing}

abbrev pub polynomial_at : List (ℕ × List ℕ) → Row → List ℕ
polynomial_at entries Pairing = 0 ∷ 1 ∷ 1 ∷ []
polynomial_at entries (Entry k) = polynomial_of (slice_get entries k)
polynomial_at entries Missing = []
