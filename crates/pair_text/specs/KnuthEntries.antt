-- `(sym name weight rank)` and `(mark name weight rank)`: the weight and the rank of a symbol.
use Rattle.std.specs.Prelude.{ℕ, ◌-◌, ◌^◌, ◌==◌, ◌&&◌, ◌||◌, not, nat_lt, Bool, true, false, List, [], ◌∷◌, Option, Some, None, Ok, Err, if◌then◌else◌}
use Rattle.std.specs.List.{list_all}
use Rattle.sexp_core.specs.Items.{Item, Items, no_items, item}
use Rattle.kbo_order.specs.Table.{symbol_of}
use Rattle.kbo_order.specs.declared.entries.KboEntry.{KboEntry}
use Rattle.names_text.specs.Named.{NamedSystem}
use Rattle.names_text.specs.declared.table.Symbol.{Symbol}
use Rattle.text_reading.specs.Reading.{Read, and_place, place_of, ended, Parts, part, Form, form}
use Rattle.text_reading.specs.Numbers.{number}
use Rattle.text_reading.specs.Printed.{number_item}
use Rattle.pair_text.specs.LongLists.{items_behind, anything}
use Rattle.pair_text.specs.Entries.{entry, entry_item, entries}

abbrev pub weighed : Symbol → ℕ → ℕ → KboEntry
weighed s weight rank = record { symbol = s.number; arity = s.arity; weight = weight; rank = rank }

-- ---- what an entry states, whatever stands behind its rank

abbrev pub weight_and_rank : Parts (ℕ → ℕ → KboEntry) KboEntry
weight_and_rank = part (number (2 ^ 63 - 1)) (part (number (2 ^ 63 - 1)) anything)

abbrev pub stated_form : Symbol → Form KboEntry
stated_form s = form weight_and_rank (weighed s)

abbrev pub stated_entry : NamedSystem → Item → Read KboEntry
stated_entry named = entry named 2 stated_form []

-- ---- an entry

-- a constant that weighs nothing
abbrev pub is_too_light : KboEntry → Bool
is_too_light e = e.arity == 0 && e.weight == 0

-- what is stated, with no more behind; a constant that weighs nothing has the place of its entry
abbrev pub only_stated : ℕ → Items → Read KboEntry → Read KboEntry
only_stated at more (Ok e) = if is_too_light e then Err at else ended (Ok e) more
only_stated at more (Err p) = Err p

abbrev pub kbo_form : Symbol → Form KboEntry
kbo_form s at xs = only_stated at (items_behind 2 xs) (stated_form s at xs)

abbrev pub kbo_entry : NamedSystem → List ℕ → Item → Read KboEntry
kbo_entry named = entry named 2 kbo_form

abbrev pub kbo_entry_item : NamedSystem → KboEntry → Item
kbo_entry_item named e = entry_item named e.symbol (number_item e.weight ∷ number_item e.rank ∷ [])

-- ---- symbols with one argument that weigh nothing

-- the entry is that of the symbol, or has a lesser rank
abbrev pub is_below : ℕ → ℕ → KboEntry → Bool
is_below f rank e = e.symbol == f || nat_lt e.rank rank

-- a symbol with one argument that weighs nothing is ranked above all others
abbrev pub is_on_top : List KboEntry → KboEntry → Bool
is_on_top es e = if e.arity == 1 && e.weight == 0 then list_all (is_below e.symbol e.rank) es else true

abbrev pub with_stated : Read KboEntry → List KboEntry → List KboEntry
with_stated (Ok e) es = e ∷ es
with_stated (Err p) es = es

-- what the entries of a list state
abbrev pub stated : NamedSystem → Items → List KboEntry
stated named no_items = []
stated named (item x xs) = with_stated (stated_entry named x) (stated named xs)

abbrev pub is_low : List KboEntry → Read KboEntry → Bool
is_low es (Ok e) = not (is_on_top es e)
is_low es (Err p) = false

-- the place of the first entry that is not on top of these
abbrev pub first_low : NamedSystem → List KboEntry → Items → Option ℕ
first_low named es no_items = None
first_low named es (item x xs) = if is_low es (stated_entry named x) then Some (place_of x) else first_low named es xs

abbrev pub with_place : {A : Type 0} → Option ℕ → Read A → Read A
with_place None r = r
with_place (Some p) r = and_place p r

-- ---- the table

-- no symbol has two; and of all that state something, each is on top that has to be
abbrev pub kbo_entries : NamedSystem → Items → Read (List KboEntry)
kbo_entries named xs = with_place (first_low named (stated named xs) xs) (entries symbol_of (kbo_entry named) xs)
