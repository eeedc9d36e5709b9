-- What the strategy kbo looks for.
use Rattle.std.specs.Prelude.{ℕ, List, map}
use Rattle.order_search.specs.Slots.{Table, table_of}
use Rattle.kbo_order.specs.declared.entries.KboEntry.{KboEntry}
use Rattle.order_search.specs.OrderSpace.{order_search, slots_of, arity_with_mark}
use Rattle.order_search.specs.OrderOver.{SearchOver}
use Rattle.kbo_find.specs.KboSpace.{kbo_family, kbo_tops, weight_by, rank_by}

-- the entry that a table says for a symbol
abbrev pub entry_by : (arity : ℕ → ℕ) → Table → ℕ → KboEntry
entry_by arity table f = record { symbol = f; arity = arity f; weight = weight_by arity table f; rank = rank_by table f }

abbrev pub kbo_entry : List ℕ → Table → ℕ → KboEntry
kbo_entry arities table f = entry_by (arity_with_mark arities) table f

-- over these symbols, rules and marked pairs
abbrev pub kbo_search : SearchOver
kbo_search arities symbols rules pairs =
    order_search (kbo_family (arity_with_mark arities)) symbols (kbo_tops (arity_with_mark arities) symbols) rules pairs

-- the entries that values in the order of the slots say for the symbols
abbrev pub entries_of : List ℕ → List ℕ → List ℕ → List KboEntry
entries_of arities symbols values = map (kbo_entry arities (table_of (slots_of (λ _. 2) symbols) values)) symbols
