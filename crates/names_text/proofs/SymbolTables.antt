-- The symbols that items declare, where the items have no faults.
use Rattle.std.proofs.Common.{◌≡◌, ℕ, suc, ◌||◌, Bool, true, false, cond, List, [], ◌∷◌, ◌++◌, length, Option, Some, None, option_map, slice_get, refl, ap, subst}
use Rattle.std.specs.List.{list_any}
use Rattle.std.specs.Str.{bytes_eq}
use Rattle.std.proofs.lemmas.List.{map-append}
use Rattle.std.proofs.lemmas.Option.{same_Some}
use Rattle.names_text.specs.Names.{are_distinct}
use Rattle.names_text.specs.Symbols.{Declared, names_of, arities_of, one_behind, symbol_named}
use Rattle.names_text.specs.declared.table.Symbol.{Symbol}
use Rattle.names_text.proofs.NameLists.{distinct_last}

pub same_count : (symbols : List Declared) → length (names_of symbols) ≡ length (arities_of symbols)
same_count [] = refl
same_count (s ∷ symbols) = ap suc (same_count symbols)

-- ---- distinct names

absent_behind : (b : Bool) (a : Symbol) (o : Option Symbol) (rest : Bool) → cond b (Some a) (option_map one_behind o) ≡ None → (o ≡ None → rest ≡ false) → (b || rest) ≡ false
absent_behind true a o rest e h = absurd cc
absent_behind false a None rest e h = h refl
absent_behind false a (Some s) rest e h = absurd cc

absent : (symbols : List Declared) (name : List ℕ) → symbol_named symbols name ≡ None → list_any (bytes_eq name) (names_of symbols) ≡ false
absent [] name e = refl
absent (s ∷ symbols) name e =
    absent_behind (bytes_eq name s.0) (record { number = 0; arity = s.1 }) (symbol_named symbols name) (list_any (bytes_eq name) (names_of symbols)) e (absent symbols name)

pub distinct_symbol : (symbols : List Declared) (name : List ℕ) (n : ℕ) → symbol_named symbols name ≡ None → are_distinct (names_of symbols) ≡ true
    → are_distinct (names_of (symbols ++ (name, n) ∷ [])) ≡ true
distinct_symbol symbols name n e h =
    rw (map-append (λ (s : Declared). s.0) symbols ((name, n) ∷ [])) (distinct_last (names_of symbols) name h (absent symbols name e))

-- ---- symbols by their names

known_behind : (b : Bool) (a : ℕ) (arities : List ℕ) (o : Option Symbol) (s : Symbol) → cond b (Some (record { number = 0; arity = a })) (option_map one_behind o) ≡ Some s
    → ((r : Symbol) → o ≡ Some r → slice_get arities r.number ≡ Some r.arity) → slice_get (a ∷ arities) s.number ≡ Some s.arity
known_behind true a arities o s e h =
    let P : Symbol → Type 0 = λ r. slice_get (a ∷ arities) r.number ≡ Some r.arity in
    subst P (same_Some (record { number = 0; arity = a }) s e) refl
known_behind false a arities None s e h = absurd cc
known_behind false a arities (Some r) s e h =
    let P : Symbol → Type 0 = λ q. slice_get (a ∷ arities) q.number ≡ Some q.arity in
    subst P (same_Some (one_behind r) s e) (h r refl)

-- a symbol that is found takes the arguments that its arity says
pub symbol_known : (symbols : List Declared) (name : List ℕ) (s : Symbol) → symbol_named symbols name ≡ Some s → slice_get (arities_of symbols) s.number ≡ Some s.arity
symbol_known [] name s e = absurd cc
symbol_known (d ∷ symbols) name s e =
    known_behind (bytes_eq name d.0) d.1 (arities_of symbols) (symbol_named symbols name) s e (symbol_known symbols name)
