-- Entries of symbols, of which none has two.
use Rattle.std.specs.Prelude.{◌≡◌, ℕ, false, List, [], ◌∷◌, ◌++◌, Ok, Err, if◌then◌else◌}
use Rattle.sexp_core.specs.Items.{Item, a_word, a_list, Items, no_items, item}
use Rattle.trs_defs.specs.Variable.{is_listed}
use Rattle.names_text.specs.Named.{NamedSystem}
use Rattle.names_text.specs.declared.table.Symbol.{Symbol}
use Rattle.text_reading.specs.Reading.{Read, Form}
use Rattle.text_reading.specs.Printed.{word_item, list_item}
use Rattle.pair_text.specs.LongLists.{lacks}
use Rattle.pair_text.specs.InTurn.{in_turn}
use Rattle.pair_text.specs.Symbols.{marked_symbol, mark_word, unmarked, name_item}

-- A symbol that is none of these. One that is has the place of its entry.
abbrev pub new_symbol : List ℕ → ℕ → Read Symbol → Read Symbol
new_symbol known at (Ok s) = if is_listed s.number known then Err at else Ok s
new_symbol known at (Err p) = Err p

-- members that are read by a symbol; behind one that is refused no place is less
abbrev pub by_symbol : {B : Type 0} → Read Symbol → (Symbol → Form B) → Form B
by_symbol (Ok s) more at xs = more s at xs
by_symbol (Err p) more at xs = Err p

-- `(sym name ..)` or `(mark name ..)` with at least so many members behind the name, of a symbol that is none of these
abbrev pub entry : {B : Type 0} → NamedSystem → ℕ → (Symbol → Form B) → List ℕ → Item → Read B
entry named least more known (a_word w at) = Err at
entry named least more known (a_list no_items at) = Err at
entry named least more known (a_list (item head no_items) at) = Err at
entry named least more known (a_list (item head (item name xs)) at) =
    if lacks least xs then Err at else by_symbol (new_symbol known at (marked_symbol named head name)) more at xs

abbrev pub entry_item : NamedSystem → ℕ → List Item → Item
entry_item named f more = list_item (word_item (mark_word f) ∷ name_item named (unmarked f) ∷ more)

abbrev pub with_symbol_of : {E : Type 0} → (E → ℕ) → List ℕ → E → List ℕ
with_symbol_of symbol_of known e = known ++ symbol_of e ∷ []

-- entries, each of which is read behind those of some symbols
abbrev pub entries : {E : Type 0} → (E → ℕ) → (List ℕ → Item → Read E) → Items → Read (List E)
entries symbol_of read xs = in_turn (with_symbol_of symbol_of) read xs []

-- none of these is among those known, or among the others before it
abbrev pub AreNewBehind : List ℕ → List ℕ → Type 0
AreNewBehind known [] = Unit {0}
AreNewBehind known (f ∷ fs) = (is_listed f known ≡ false) × AreNewBehind (known ++ f ∷ []) fs
