-- An entry of a table of arities, weights and ranks that agrees with the arities and keeps the limits.
use Rattle.std.specs.Prelude.{◌≡◌, ℕ, ◌<◌, ◌^◌, List, Some}
use Rattle.order_theory.specs.KnuthBendix.{arity_with_marks}
use Rattle.kbo_order.specs.declared.entries.KboEntry.{KboEntry}

-- the entry's arity is that of its symbol
abbrev pub IsKboEntry : List ℕ → KboEntry → Type 0
IsKboEntry arities e = (arity_with_marks arities e.symbol ≡ Some e.arity) × (e.weight < 2 ^ 63) × (e.rank < 2 ^ 63)
