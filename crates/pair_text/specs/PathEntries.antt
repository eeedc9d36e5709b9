-- `(sym name number filter)` and `(mark name number filter)`: the rank and the filter of a symbol.
use Rattle.std.specs.Prelude.{ℕ, min, ◌-◌, ◌^◌, List, [], ◌∷◌, Ok}
use Rattle.sexp_core.specs.Items.{Item, a_word, a_list, Items}
use Rattle.order_theory.specs.ArgumentFilter.{ArgumentFilter, To, Keep}
use Rattle.path_lpo.specs.Table.{PathEntry, symbol_of}
use Rattle.names_text.specs.Named.{NamedSystem}
use Rattle.names_text.specs.declared.table.Symbol.{Symbol}
use Rattle.text_reading.specs.Reading.{Read, ◌<*>◌, Parts, part, done, form}
use Rattle.text_reading.specs.Numbers.{number}
use Rattle.text_reading.specs.Printed.{number_item, row_item}
use Rattle.pair_text.specs.InTurn.{ascending}
use Rattle.pair_text.specs.Symbols.{argument_place}
use Rattle.pair_text.specs.Entries.{entry, entry_item, entries}

abbrev pub to_place : ℕ → ArgumentFilter
to_place place = To place

abbrev pub keep_places : List ℕ → ArgumentFilter
keep_places places = Keep places

-- `place` or `(place ..)`: the place of an argument, or places that ascend strictly
abbrev pub filter : ℕ → Item → Read ArgumentFilter
filter arity (a_word w at) = Ok to_place <*> argument_place arity (a_word w at)
filter arity (a_list xs at) = Ok keep_places <*> ascending (min arity 255) xs 1

abbrev pub path_entry_of : Symbol → ℕ → ArgumentFilter → PathEntry
path_entry_of s rank kept = record { symbol = s.number; rank = rank; filter = kept }

abbrev pub rank_and_filter : Symbol → Parts (ℕ → ArgumentFilter → PathEntry) PathEntry
rank_and_filter s = part (number (2 ^ 63 - 1)) (part (filter s.arity) done)

abbrev pub path_entry : NamedSystem → List ℕ → Item → Read PathEntry
path_entry named = entry named 2 (λ s. form (rank_and_filter s) (path_entry_of s))

abbrev pub filter_item : ArgumentFilter → Item
filter_item (To place) = number_item place
filter_item (Keep places) = row_item number_item places

abbrev pub path_entry_item : NamedSystem → PathEntry → Item
path_entry_item named e = entry_item named e.symbol (number_item e.rank ∷ filter_item e.filter ∷ [])

-- no symbol has two
abbrev pub path_entries : NamedSystem → Items → Read (List PathEntry)
path_entries named xs = entries symbol_of (path_entry named) xs
