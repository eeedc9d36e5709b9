-- The entries of a table, by the symbols that they are for.
use Rattle.std.specs.Prelude.{ℕ, suc, Bool, List, [], ◌∷◌, ◌++◌, Option, Some, None, option_map, is_some, ◌==◌, if◌then◌else◌}
use Rattle.trs_defs.specs.Variable.{is_listed}

-- the place of a symbol among others, counted from 0
abbrev pub place_among : List ℕ → ℕ → Option ℕ
place_among [] f = None
place_among (g ∷ gs) f = if g == f then Some 0 else option_map suc (place_among gs f)

-- the symbols, and a new one behind them
abbrev pub with_symbol : List ℕ → ℕ → List ℕ
with_symbol symbols f = if is_listed f symbols then symbols else symbols ++ f ∷ []

-- the first entry of a symbol
abbrev pub entry_of : {E : Type 0} → (E → ℕ) → List E → ℕ → Option E
entry_of symbol_of [] f = None
entry_of symbol_of (e ∷ es) f = if symbol_of e == f then Some e else entry_of symbol_of es f

-- whether the symbol has one
abbrev pub has_entry : {E : Type 0} → (E → ℕ) → List E → ℕ → Bool
has_entry symbol_of es f = is_some (entry_of symbol_of es f)
