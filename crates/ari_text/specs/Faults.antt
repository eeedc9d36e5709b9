-- The faults of the items behind the format, each with its place. A name is declared where some `fun` item with a name,
-- a good arity and nothing else declares it, also one that stands further down; the first one gives its arity.
use Rattle.std.specs.Prelude.{ℕ, zero, suc, ◌+◌, ◌-◌, ◌==◌, ◌||◌, nat_le, Bool, false, not, List, [], ◌∷◌, ◌++◌, Option, Some, None, Ok, Err, if◌then◌else◌}
use Rattle.sexp_core.specs.Items.{Item, a_word, a_list, Items, no_items, item}
use Rattle.numerals.specs.Numerals.{digits_value}
use Rattle.text_reading.specs.Reading.{place_of}
use Rattle.names_text.specs.declared.table.Symbol.{Symbol}
use Rattle.names_text.specs.Symbols.{Declared, symbol_named}
use Rattle.term_text.specs.declared.fault.TermFault.{TermFault}
use Rattle.term_text.specs.declared.fault.TermFault.TheVariants.{EmptyList, ListAsHead, Undeclared, ArgumentLacks, ArgumentExtra, LoneSymbol, NewVariable}
use Rattle.term_text.specs.Checked.{Faults, a_fault, both, Checked}
use Rattle.term_text.specs.Limits.{nodes_of, nodes_left}
use Rattle.ari_text.specs.declared.fault.AriFault.{AriFault}
use Rattle.ari_text.specs.declared.fault.AriFault.TheVariants.{BadItem, Twice, BadArity, Unknown, WrongArity, LeftIsVariable, ExtraVariable, Attribute, TooMany, TooDeep}
use Rattle.ari_text.specs.Entries.{Saying, declares, rewrites, attributed, says_nothing, entry_of}
use Rattle.ari_text.specs.Rules.{rules_of}

-- ---- the terms of a rule

-- the fault of a problem for what is no term
abbrev pub ari_fault : TermFault → AriFault
ari_fault (EmptyList at) = BadItem at
ari_fault (ListAsHead at head_at) = BadItem at
ari_fault (Undeclared head_at) = Unknown head_at
ari_fault (ArgumentLacks at) = WrongArity at
ari_fault (ArgumentExtra at extra_at) = WrongArity at
ari_fault (LoneSymbol at) = WrongArity at
ari_fault (NewVariable at) = ExtraVariable at

abbrev pub ari_faults : Faults → List AriFault
ari_faults (a_fault f) = ari_fault f ∷ []
ari_faults (both ps qs) = ari_faults ps ++ ari_faults qs

-- the faults of what was read
abbrev pub faults_in : {A : Type 0} → Checked A → List AriFault
faults_in (Ok x) = []
faults_in (Err ps) = ari_faults ps

-- the subterms that stand so many levels deeper
abbrev mutual
  pub deep_faults : ℕ → Item → List AriFault
  deep_faults zero x = TooDeep (place_of x) ∷ []
  deep_faults (suc n) (a_word name at) = []
  deep_faults (suc n) (a_list xs at) = deep_behind n xs

  pub deep_behind : ℕ → Items → List AriFault
  deep_behind n no_items = []
  deep_behind n (item head args) = all_deep_faults n args

  pub all_deep_faults : ℕ → Items → List AriFault
  all_deep_faults n no_items = []
  all_deep_faults n (item x xs) = deep_faults n x ++ all_deep_faults n xs

abbrev pub lone_faults : ℕ → Option Symbol → List AriFault
lone_faults at None = LeftIsVariable at ∷ []
lone_faults at (Some s) = []

-- a left side that is a variable
abbrev pub left_faults : List Declared → Item → List AriFault
left_faults symbols (a_word name at) = lone_faults at (symbol_named symbols name)
left_faults symbols (a_list members at) = []

-- of what an item says: a left side that is a variable, and each subterm at depth 257, where a side stands at depth 1
abbrev pub side_faults : List Declared → Saying → List AriFault
side_faults symbols (declares name q arity r) = []
side_faults symbols (rewrites left right) = left_faults symbols left ++ (deep_faults 256 left ++ deep_faults 256 right)
side_faults symbols (attributed s at) = side_faults symbols s
side_faults symbols says_nothing = []

-- ---- declarations

abbrev pub twice_faults : ℕ → Option Symbol → List AriFault
twice_faults at None = []
twice_faults at (Some s) = Twice at ∷ []

abbrev pub arity_faults : ℕ → Option ℕ → List AriFault
arity_faults at None = BadArity at ∷ []
arity_faults at (Some n) = []

-- of what an item at a place says, its terms aside, after symbols that earlier items declare
abbrev pub declaration_faults : List Declared → ℕ → Saying → List AriFault
declaration_faults symbols at (declares name q arity r) =
    twice_faults q (symbol_named symbols name) ++ arity_faults r (digits_value 255 arity)
declaration_faults symbols at (rewrites left right) = []
declaration_faults symbols at (attributed s q) = declaration_faults symbols at s ++ Attribute q ∷ []
declaration_faults symbols at says_nothing = BadItem at ∷ []

-- the symbols with one more, if its name is new and its arity good
abbrev pub with_symbol : List Declared → List ℕ → Option Symbol → Option ℕ → List Declared
with_symbol symbols name (Some known) arity = symbols
with_symbol symbols name None None = symbols
with_symbol symbols name None (Some n) = symbols ++ (name, n) ∷ []

abbrev pub symbols_after : List Declared → Saying → List Declared
symbols_after symbols (declares name q arity r) = with_symbol symbols name (symbol_named symbols name) (digits_value 255 arity)
symbols_after symbols (rewrites left right) = symbols
symbols_after symbols (attributed s at) = symbols
symbols_after symbols says_nothing = symbols

-- the symbols that items declare, after others
abbrev pub symbols_of : List Declared → Items → List Declared
symbols_of symbols no_items = symbols
symbols_of symbols (item x xs) = symbols_of (symbols_after symbols (entry_of x)) xs

-- how many `fun` and `rule` items come up to the first that is too many, and how many nodes may still come; no number of
-- nodes once they are passed
pub record Room : Type 0 where
  pub funs : ℕ
  pub rules : ℕ
  pub nodes : Option ℕ

abbrev pub whole_room : Room
whole_room = record { funs = 4096; rules = 4096; nodes = Some 65536 }

abbrev pub room_after : Room → Saying → Room
room_after room (declares name q arity r) = record room { funs = room.funs - 1 }
room_after room (rewrites left right) =
    record room { rules = room.rules - 1; nodes = nodes_left (nodes_of left + nodes_of right) room.nodes }
room_after room (attributed s at) = room_after room s
room_after room says_nothing = room

abbrev pub passes : ℕ → Option ℕ → Bool
passes n None = false
passes n (Some room) = not (nat_le n room)

-- of an item at a place that is too many
abbrev pub count_faults : Room → ℕ → Saying → List AriFault
count_faults room at (declares name q arity r) = if room.funs == 1 then TooMany at ∷ [] else []
count_faults room at (rewrites left right) =
    if room.rules == 1 || passes (nodes_of left + nodes_of right) room.nodes then TooMany at ∷ [] else []
count_faults room at (attributed s q) = count_faults room at s
count_faults room at says_nothing = []

abbrev pub all_declaration_faults : List Declared → Room → Items → List AriFault
all_declaration_faults symbols room no_items = []
all_declaration_faults symbols room (item x xs) =
    (count_faults room (place_of x) (entry_of x) ++ declaration_faults symbols (place_of x) (entry_of x))
    ++ all_declaration_faults (symbols_after symbols (entry_of x)) (room_after room (entry_of x)) xs

abbrev pub all_side_faults : List Declared → Items → List AriFault
all_side_faults symbols no_items = []
all_side_faults symbols (item x xs) = side_faults symbols (entry_of x) ++ all_side_faults symbols xs

-- of the rules of items over these symbols
abbrev pub rule_faults : List Declared → Items → List AriFault
rule_faults symbols items = all_side_faults symbols items ++ faults_in (rules_of symbols items)

-- all faults of the items behind the format
abbrev pub faults_of : Items → List AriFault
faults_of items = all_declaration_faults [] whole_room items ++ rule_faults (symbols_of [] items) items
