-- Symbols by their names: what is read, and what is read again.
use Rattle.std.proofs.Common.{◌≡◌, inl, inr, ℕ, zero, suc, ◌+◌, ◌<◌, ◌≤◌, min, nat_lt, ◌⊎◌, Bool, true, false, cond, List, [], ◌∷◌, length, get_or, Option, Some, None, option_map, slice_get, Ok, Err, codes, refl, sym, ap, subst, ◌∙◌, arith}
use Rattle.std.specs.List.{list_all}
use Rattle.std.proofs.lemmas.Bool.{and_parts, ltb-true, ltb-false}
use Rattle.std.proofs.lemmas.Option.{slice_get_within, get_or_from_slice_get}
use Rattle.sexp_core.specs.Items.{Item, a_word, a_list}
use Rattle.sexp_core.specs.Printed.{IsWord}
use Rattle.order_theory.specs.KnuthBendix.{arity_with_marks}
use Rattle.order_theory.proofs.KnuthPair.{arity_below, arity_above}
use Rattle.names_text.specs.Named.{NamedSystem, IsNamed, is_word, table_of}
use Rattle.names_text.specs.Symbols.{paired, symbol_named}
use Rattle.names_text.specs.declared.table.Symbol.{Symbol}
use Rattle.names_text.proofs.SymbolTables.{symbol_known}
use Rattle.names_text.proofs.SymbolPairs.{arity_kept, symbol_at as numbered, symbol_by_number}
use Rattle.names_text.proofs.PrintedNames.{symbol_word, symbol_number}
use Rattle.text_reading.specs.Reading.{Read, ◌<*>◌}
use Rattle.text_reading.specs.Printed.{word_item, number_item}
use Rattle.text_reading.proofs.Made.{Makes, ok_same, applied, made_word, made_positive}
use Rattle.text_reading.proofs.Again.{Spells, spells_by, spells_word, spells_positive}
use Rattle.pair_text.specs.Symbols.{symbol_at, symbol, marks, mark, with_mark, marked_symbol, argument_place, mark_word, unmarked, name_of, name_item}

-- ---- what is read

pub known_arity : (named : NamedSystem) (w : List ℕ) (s : Symbol) → symbol_named (table_of named) w ≡ Some s → slice_get named.system.arities s.number ≡ Some s.arity
known_arity named w s e = arity_kept named.names named.system.arities s.number s.arity (symbol_known (table_of named) w s e)

-- a symbol of a named system has a number below 4,096
pub small_symbol : (named : NamedSystem) → IsNamed named → (w : List ℕ) (s : Symbol) → symbol_named (table_of named) w ≡ Some s → s.number < 4096
small_symbol named is w s e =
    let within = slice_get_within named.system.arities s.number s.arity (known_arity named w s e) in
    omega (arith, within, is.valid.within_limits.symbols)

made_at : (arities : List ℕ) (at : ℕ) (o : Option Symbol) (v : Symbol) → ((s : Symbol) → o ≡ Some s → slice_get arities s.number ≡ Some s.arity) → symbol_at at o ≡ Ok v
    → slice_get arities v.number ≡ Some v.arity
made_at arities at None v h e = absurd cc
made_at arities at (Some s) v h e = h v (ap Some (ok_same s v e))

pub symbol_made : (named : NamedSystem) → Makes (symbol named) (λ s. slice_get named.system.arities s.number ≡ Some s.arity)
symbol_made named (a_word w at) v e = made_at named.system.arities at (symbol_named (table_of named) w) v (known_arity named w) e
symbol_made named (a_list xs at) v e = absurd cc

abbrev IsAdded : ℕ → Type 0
IsAdded n = (n ≡ 0) ⊎ (n ≡ 4096)

mark_made : Makes mark IsAdded
mark_made = made_word marks IsAdded (inl refl, (inr refl, tt))

added_arity : (arities : List ℕ) → length arities ≤ 4095 → (added f n : ℕ) → IsAdded added → slice_get arities f ≡ Some n → arity_with_marks arities (f + added) ≡ Some n
added_arity arities few added f n (inl is) e =
    let T : ℕ → Type 0 = λ g. arity_with_marks arities g ≡ Some n in
    let same : f ≡ f + added = omega arith in
    subst T same (arity_below arities f n (omega (arith, slice_get_within arities f n e)) e)
added_arity arities few added f n (inr is) e =
    let T : ℕ → Type 0 = λ g. arity_with_marks arities (f + g) ≡ Some n in
    subst T (sym is) (arity_above arities f n e)

pub marked_made : (named : NamedSystem) → length named.system.arities ≤ 4095 → (head name : Item) (v : Symbol) → marked_symbol named head name ≡ Ok v
    → arity_with_marks named.system.arities v.number ≡ Some v.arity
marked_made named few head name v e =
    let b = applied (Ok with_mark <*> mark head) (symbol named name) v e in
    let a = applied (Ok with_mark) (mark head) b.make b.is_make in
    let same_make : with_mark ≡ a.make = ok_same _ _ a.is_make in
    let same : with_mark a.value b.value ≡ v = ap (λ (f : ℕ → Symbol → Symbol). f a.value b.value) same_make ∙ ap (λ (g : Symbol → Symbol). g b.value) a.made ∙ b.made in
    let T : Symbol → Type 0 = λ s. arity_with_marks named.system.arities s.number ≡ Some s.arity in
    subst T same (added_arity named.system.arities few a.value b.value.number b.value.arity (mark_made head a.value a.is_value) (symbol_made named name b.value b.is_value))

-- the place of an argument of a symbol with this arity
pub record IsArgumentPlace (arity place : ℕ) : Type 0 where
  pub low : 1 ≤ place
  pub within : place ≤ arity
  pub byte : place ≤ 255

pub argument_made : (arity : ℕ) → Makes (argument_place arity) (IsArgumentPlace arity)
argument_made arity x v e =
    let h = made_positive (min arity 255) x v e in
    let low : 1 ≤ v = h.0 in
    let high : v ≤ min arity 255 = h.1 in
    record { low = low; within = omega arith; byte = omega arith }

-- ---- what is printed is read again

pub argument_again : (arity place : ℕ) → IsArgumentPlace arity place → Spells (argument_place arity) 0 (number_item place) place
argument_again arity place h =
    let low = h.low in
    let within = h.within in
    let byte = h.byte in
    spells_positive (min arity 255) place (omega arith) low (omega arith)

all_words : (names : List (List ℕ)) (f : ℕ) → list_all is_word names ≡ true → f < length names → is_word (get_or names f []) ≡ true
all_words [] f e lt = absurd (omega arith)
all_words (n ∷ names) zero e lt = (and_parts (is_word n) (list_all is_word names) e).0
all_words (n ∷ names) (suc f) e lt = all_words names f (and_parts (is_word n) (list_all is_word names) e).1 (omega arith)

name_found : (named : NamedSystem) → IsNamed named → (f n : ℕ) → slice_get named.system.arities f ≡ Some n
    → symbol_named (table_of named) (name_of named f) ≡ Some (record { number = f; arity = n })
name_found named is f n e =
    let number = symbol_number named.names f is.distinct (omega (arith, is.counts, slice_get_within named.system.arities f n e)) in
    let arity : get_or named.system.arities f 0 ≡ n = get_or_from_slice_get named.system.arities f n 0 e in
    symbol_by_number named.names named.system.arities (name_of named f) is.counts ∙ ap (option_map (numbered named.system.arities)) number
    ∙ ap (λ (a : ℕ). Some (record { number = f; arity = a })) arity

pub symbol_again : (named : NamedSystem) → IsNamed named → (f n : ℕ) → slice_get named.system.arities f ≡ Some n
    → Spells (symbol named) 0 (name_item named f) (record { number = f; arity = n })
symbol_again named is f n e =
    spells_by (symbol named) (name_of named f) (record { number = f; arity = n })
    (symbol_word (name_of named f) (all_words named.names f is.words (omega (arith, is.counts, slice_get_within named.system.arities f n e))))
    (λ at. ap (symbol_at at) (name_found named is f n e))

-- what is added to the number of the symbol without its mark
abbrev pub added_by : Bool → ℕ
added_by true = 0
added_by false = 4096

-- the parts of a symbol's number in tables
pub record IsMarked (arities : List ℕ) (f n added : ℕ) : Type 0 where
  pub mark_again : Spells mark 0 (word_item (mark_word f)) added
  pub arity : slice_get arities (unmarked f) ≡ Some n
  pub number : unmarked f + added ≡ f

marked_by : (arities : List ℕ) (f n : ℕ) (b : Bool) → nat_lt f 4096 ≡ b → arity_with_marks arities f ≡ Some n → IsMarked arities f n (added_by b)
marked_by arities f n true test e = record {
  mark_again = rw test (spells_word marks (codes "sym") 0 refl (λ at. refl));
  arity = rw test (rw test at e);
  number = rw test (omega arith);
}
marked_by arities f n false test e =
    let above : 4096 ≤ f = ltb-false f 4096 test in
    record {
      mark_again = rw test (spells_word marks (codes "mark") 4096 refl (λ at. refl));
      arity = rw test (rw test at e);
      number = rw test (omega arith);
    }

pub is_marked : (arities : List ℕ) (f n : ℕ) → arity_with_marks arities f ≡ Some n → IsMarked arities f n (added_by (nat_lt f 4096))
is_marked arities f n e = marked_by arities f n (nat_lt f 4096) refl e
