-- What the strategy poly looks for.
use Rattle.std.specs.Prelude.{ℕ, List, []}
use Rattle.order_search.specs.Slots.{Table}
use Rattle.order_search.specs.OrderSpace.{order_search, arity_with_mark}
use Rattle.order_search.specs.OrderOver.{SearchOver}
use Rattle.poly_find.specs.PolySpace.{poly_family, polynomial_by}

-- the entry that a table says for a symbol
abbrev pub poly_entry : List ℕ → Table → ℕ → ℕ × List ℕ
poly_entry arities table f = (f, polynomial_by (arity_with_mark arities) table f)

-- over these symbols, rules and marked pairs
abbrev pub poly_search : SearchOver
poly_search arities symbols rules pairs = order_search (poly_family (arity_with_mark arities)) symbols [] rules pairs
