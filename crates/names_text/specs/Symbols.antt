-- Declared symbols.
use Rattle.std.specs.Prelude.{ℕ, suc, List, [], ◌∷◌, map, Option, Some, None, option_map, if◌then◌else◌}
use Rattle.std.specs.Str.{bytes_eq}
use Rattle.names_text.specs.declared.table.Symbol.{Symbol}

-- a name and an arity
abbrev pub Declared : Type 0
Declared = List ℕ × ℕ

abbrev pub paired : List (List ℕ) → List ℕ → List Declared
paired [] as' = []
paired (n ∷ ns) [] = []
paired (n ∷ ns) (a ∷ as') = (n, a) ∷ paired ns as'

abbrev pub names_of : List Declared → List (List ℕ)
names_of symbols = map (λ s. s.0) symbols

abbrev pub arities_of : List Declared → List ℕ
arities_of symbols = map (λ s. s.1) symbols

-- of a symbol that stands one further behind
abbrev pub one_behind : Symbol → Symbol
one_behind s = record s { number = suc s.number }

-- the first symbol with a name
abbrev pub symbol_named : List Declared → List ℕ → Option Symbol
symbol_named [] name = None
symbol_named (s ∷ ss) name =
    if bytes_eq name s.0 then Some (record { number = 0; arity = s.1 }) else option_map one_behind (symbol_named ss name)
