-- `(name place)`: the place of an argument, for a symbol.
use Rattle.std.specs.Prelude.{ℕ, List, [], ◌∷◌, Err, if◌then◌else◌}
use Rattle.sexp_core.specs.Items.{Item, a_word, a_list, Items, no_items, item}
use Rattle.names_text.specs.Named.{NamedSystem}
use Rattle.names_text.specs.declared.table.Symbol.{Symbol}
use Rattle.text_reading.specs.Reading.{Read, Parts, part, done, form}
use Rattle.text_reading.specs.Printed.{number_item, list_item}
use Rattle.pair_text.specs.LongLists.{lacks}
use Rattle.pair_text.specs.Symbols.{symbol, argument_place, name_item}
use Rattle.pair_text.specs.Entries.{new_symbol, by_symbol, entries}

abbrev pub projected : Symbol → ℕ → ℕ × ℕ
projected s place = (s.number, place)

abbrev pub projected_symbol : ℕ × ℕ → ℕ
projected_symbol e = e.0

-- a place up to the symbol's arity
abbrev pub place_parts : Symbol → Parts (ℕ → ℕ × ℕ) (ℕ × ℕ)
place_parts s = part (argument_place s.arity) done

-- `(name place)`, for a symbol that is none of these
abbrev pub projection : NamedSystem → List ℕ → Item → Read (ℕ × ℕ)
projection named known (a_word w at) = Err at
projection named known (a_list no_items at) = Err at
projection named known (a_list (item name xs) at) =
    if lacks 1 xs then Err at
    else by_symbol (new_symbol known at (symbol named name)) (λ s. form (place_parts s) (projected s)) at xs

abbrev pub projection_item : NamedSystem → ℕ × ℕ → Item
projection_item named e = list_item (name_item named e.0 ∷ number_item e.1 ∷ [])

-- no symbol has two
abbrev pub projections : NamedSystem → Items → Read (List (ℕ × ℕ))
projections named xs = entries projected_symbol (projection named) xs
