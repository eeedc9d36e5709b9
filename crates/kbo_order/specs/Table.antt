-- What a table of arities, weights and ranks says of each symbol. A symbol with no entry has weight 0 and rank 0.
use Rattle.std.specs.Prelude.{◌≡◌, ℕ, List, Option, Some, None, option_map, is_some, IsTrue, refl}
use Rattle.pair_order.specs.Entries.{entry_of, has_entry}
use Rattle.kbo_order.specs.declared.entries.KboEntry.{KboEntry}

abbrev pub symbol_of : KboEntry → ℕ
symbol_of e = e.symbol

abbrev pub arity_of : KboEntry → ℕ
arity_of e = e.arity

abbrev pub weight_of : Option KboEntry → ℕ
weight_of None = 0
weight_of (Some e) = e.weight

abbrev pub rank_of : Option KboEntry → ℕ
rank_of None = 0
rank_of (Some e) = e.rank

-- the number of arguments of a symbol that has an entry
abbrev pub arity_in : List KboEntry → ℕ → Option ℕ
arity_in entries f = option_map arity_of (entry_of symbol_of entries f)

abbrev pub weight_in : List KboEntry → ℕ → ℕ
weight_in entries f = weight_of (entry_of symbol_of entries f)

abbrev pub rank_in : List KboEntry → ℕ → ℕ
rank_in entries f = rank_of (entry_of symbol_of entries f)

arity_there : (o : Option KboEntry) → IsTrue (is_some o) → (n : ℕ) × (option_map arity_of o ≡ Some n)
arity_there None e = absurd cc
arity_there (Some d) e = (d.arity, refl)

-- a symbol that has an entry has an arity
pub has_arity : (entries : List KboEntry) (f : ℕ) → IsTrue (has_entry symbol_of entries f) → (n : ℕ) × (arity_in entries f ≡ Some n)
has_arity entries f e = arity_there (entry_of symbol_of entries f) e
