-- Symbols in tables: by their names, plain or marked. A marked symbol has the number of the plain one, and 4096.
use Rattle.std.specs.Prelude.{ℕ, ◌+◌, ◌-◌, min, nat_lt, List, [], ◌∷◌, Option, Some, None, Ok, Err, codes, slice_index_or, if◌then◌else◌}
use Rattle.sexp_core.specs.Items.{Item, a_word, a_list}
use Rattle.names_text.specs.Named.{NamedSystem, table_of}
use Rattle.names_text.specs.Symbols.{symbol_named}
use Rattle.names_text.specs.declared.table.Symbol.{Symbol}
use Rattle.text_reading.specs.Reading.{Read, ◌<*>◌, word}
use Rattle.text_reading.specs.Numbers.{positive}
use Rattle.text_reading.specs.Printed.{word_item}

abbrev pub symbol_at : ℕ → Option Symbol → Read Symbol
symbol_at at None = Err at
symbol_at at (Some s) = Ok s

-- the name of a symbol
abbrev pub symbol : NamedSystem → Item → Read Symbol
symbol named (a_word w at) = symbol_at at (symbol_named (table_of named) w)
symbol named (a_list xs at) = Err at

-- `sym` before the name of a symbol, and `mark` for the marked one: what is added to its number
abbrev pub marks : List (List ℕ × ℕ)
marks = (codes "sym", 0) ∷ (codes "mark", 4096) ∷ []

abbrev pub mark : Item → Read ℕ
mark = word marks

abbrev pub with_mark : ℕ → Symbol → Symbol
with_mark added s = record { number = s.number + added; arity = s.arity }

-- `sym name` or `mark name`
abbrev pub marked_symbol : NamedSystem → Item → Item → Read Symbol
marked_symbol named head name = Ok with_mark <*> mark head <*> symbol named name

-- the place of an argument: at most the arity of a symbol, and 255
abbrev pub argument_place : ℕ → Item → Read ℕ
argument_place arity = positive (min arity 255)

-- ---- printed

abbrev pub mark_word : ℕ → List ℕ
mark_word f = if nat_lt f 4096 then codes "sym" else codes "mark"

-- the number of the symbol without its mark
abbrev pub unmarked : ℕ → ℕ
unmarked f = if nat_lt f 4096 then f else f - 4096

-- the name of a symbol; one that the system does not have is written as no bytes
abbrev pub name_of : NamedSystem → ℕ → List ℕ
name_of named f = slice_index_or named.names f []

abbrev pub name_item : NamedSystem → ℕ → Item
name_item named f = word_item (name_of named f)
