-- `(sym name number ..)` and `(mark name number ..)`: the linear polynomial of a symbol.
use Rattle.std.specs.Prelude.{ℕ, suc, ◌-◌, ◌^◌, List, map}
use Rattle.sexp_core.specs.Items.{Item, Items}
use Rattle.poly_lin.specs.Table.{symbol_of}
use Rattle.names_text.specs.Named.{NamedSystem}
use Rattle.names_text.specs.declared.table.Symbol.{Symbol}
use Rattle.text_reading.specs.Reading.{Read, Parts, form}
use Rattle.text_reading.specs.Numbers.{number}
use Rattle.text_reading.specs.Printed.{number_item}
use Rattle.pair_text.specs.LongLists.{exactly}
use Rattle.pair_text.specs.Entries.{entry, entry_item, entries}

abbrev pub polynomial : Symbol → List ℕ → ℕ × List ℕ
polynomial s coefficients = (s.number, coefficients)

-- `c0 c1 .. cn`: one number more than the symbol's arity
abbrev pub coefficients : Symbol → Parts (List ℕ → ℕ × List ℕ) (ℕ × List ℕ)
coefficients s = exactly (suc s.arity) (number (2 ^ 63 - 1))

abbrev pub linear_entry : NamedSystem → List ℕ → Item → Read (ℕ × List ℕ)
linear_entry named = entry named 1 (λ s. form (coefficients s) (polynomial s))

abbrev pub linear_entry_item : NamedSystem → ℕ × List ℕ → Item
linear_entry_item named e = entry_item named e.0 (map number_item e.1)

-- no symbol has two
abbrev pub linear_entries : NamedSystem → Items → Read (List (ℕ × List ℕ))
linear_entries named xs = entries symbol_of (linear_entry named) xs
