-- Names beside arities.
use Rattle.std.proofs.Common.{◌≡◌, ℕ, zero, suc, slice_get, Bool, true, false, cond, List, [], ◌∷◌, ◌++◌, length, get_or, Option, Some, None, option_map, refl, ap, sym, ◌∙◌, arith}
use Rattle.std.specs.Str.{bytes_eq}
use Rattle.names_text.specs.Names.{number_among}
use Rattle.names_text.specs.Symbols.{Declared, paired, names_of, arities_of, one_behind, symbol_named}
use Rattle.names_text.specs.declared.table.Symbol.{Symbol}

-- the arity with a number
abbrev pub arity_at : List ℕ → ℕ → ℕ
arity_at as' i = get_or as' i 0

pub paired_last : (ns : List (List ℕ)) (as' : List ℕ) (n : List ℕ) (a : ℕ) → length ns ≡ length as' → paired (ns ++ n ∷ []) (as' ++ a ∷ []) ≡ paired ns as' ++ (n, a) ∷ []
paired_last [] [] n a l = refl
paired_last [] (b ∷ as') n a l = absurd (omega arith)
paired_last (m ∷ ns) [] n a l = absurd (omega arith)
paired_last (m ∷ ns) (b ∷ as') n a l = ap (λ (ss : List Declared). (m, b) ∷ ss) (paired_last ns as' n a (omega arith))

pub names_paired : (ns : List (List ℕ)) (as' : List ℕ) → length ns ≡ length as' → names_of (paired ns as') ≡ ns
names_paired [] as' l = refl
names_paired (n ∷ ns) [] l = absurd (omega arith)
names_paired (n ∷ ns) (a ∷ as') l = ap (λ ms. n ∷ ms) (names_paired ns as' (omega arith))

pub arities_paired : (ns : List (List ℕ)) (as' : List ℕ) → length ns ≡ length as' → arities_of (paired ns as') ≡ as'
arities_paired [] [] l = refl
arities_paired [] (a ∷ as') l = absurd (omega arith)
arities_paired (n ∷ ns) [] l = absurd (omega arith)
arities_paired (n ∷ ns) (a ∷ as') l = ap (λ bs. a ∷ bs) (arities_paired ns as' (omega arith))

-- ---- symbols by their names

-- the symbol with a number
abbrev pub symbol_at : List ℕ → ℕ → Symbol
symbol_at as' i = record { number = i; arity = arity_at as' i }

one_later : (a : ℕ) (as' : List ℕ) (o : Option ℕ) → option_map one_behind (option_map (symbol_at as') o) ≡ option_map (symbol_at (a ∷ as')) (option_map suc o)
one_later a as' None = refl
one_later a as' (Some i) = refl

first_or_later : (b : Bool) (a : ℕ) (as' : List ℕ) (o : Option Symbol) (p : Option ℕ) → o ≡ option_map (symbol_at as') p
    → cond b (Some (record { number = 0; arity = a })) (option_map one_behind o) ≡ option_map (symbol_at (a ∷ as')) (cond b (Some 0) (option_map suc p))
first_or_later true a as' o p e = refl
first_or_later false a as' o p e = ap (option_map one_behind) e ∙ one_later a as' p

-- the symbol with a name is the one with its number
pub symbol_by_number : (ns : List (List ℕ)) (as' : List ℕ) (name : List ℕ) → length ns ≡ length as' → symbol_named (paired ns as') name ≡ option_map (symbol_at as') (number_among ns name)
symbol_by_number [] as' name l = refl
symbol_by_number (n ∷ ns) [] name l = absurd (omega arith)
symbol_by_number (n ∷ ns) (a ∷ as') name l = first_or_later (bytes_eq name n) a as' _ (number_among ns name) (symbol_by_number ns as' name (omega arith))

none_of : (as' : List ℕ) (o : Option ℕ) → option_map (symbol_at as') o ≡ None → o ≡ None
none_of as' None e = refl
none_of as' (Some i) e = absurd cc

-- a name of no symbol has no number
pub number_missing : (ns : List (List ℕ)) (as' : List ℕ) (name : List ℕ) → length ns ≡ length as' → symbol_named (paired ns as') name ≡ None → number_among ns name ≡ None
number_missing ns as' name l e = none_of as' _ (sym (symbol_by_number ns as' name l) ∙ e)

-- names that are fewer than the arities leave the first arities
pub arity_kept : (ns : List (List ℕ)) (as' : List ℕ) (f n : ℕ) → slice_get (arities_of (paired ns as')) f ≡ Some n → slice_get as' f ≡ Some n
arity_kept [] as' f n e = absurd cc
arity_kept (m ∷ ns) [] f n e = absurd cc
arity_kept (m ∷ ns) (a ∷ as') zero n e = e
arity_kept (m ∷ ns) (a ∷ as') (suc f) n e = arity_kept ns as' f n e
