-- What no faults say of the declarations of items.
use Rattle.std.proofs.Common.{◌≡◌, ◌≢◌, ℕ, ◌+◌, ◌≤◌, ◌==◌, Bool, true, false, cond, codes, List, [], ◌∷◌, ◌++◌, length, Option, Some, None, refl, arith}
use Rattle.std.specs.List.{list_all, AllByRecursion}
use Rattle.std.specs.Str.{bytes_eq}
use Rattle.std.proofs.lemmas.Bool.{and_parts, and_from}
use Rattle.std.proofs.lemmas.List.{length-append, map-append}
use Rattle.sexp_core.specs.Items.{Item, a_word, a_list, Items, no_items, item}
use Rattle.sexp_core.specs.Printed.{IsWord, HasWords, AreWords}
use Rattle.sexp_core.proofs.Words.{all_letters}
use Rattle.numerals.specs.Numerals.{digits_value}
use Rattle.numerals.proofs.Limits.{digits_within}
use Rattle.ari_text.specs.declared.fault.AriFault.{AriFault}
use Rattle.ari_text.specs.declared.fault.AriFault.TheVariants.{TooMany, Attribute}
use Rattle.names_text.specs.Names.{are_distinct}
use Rattle.names_text.specs.Symbols.{Declared, names_of, arities_of, symbol_named}
use Rattle.names_text.specs.declared.table.Symbol.{Symbol}
use Rattle.names_text.specs.Named.{is_word}
use Rattle.ari_text.specs.Entries.{Saying, declares, rewrites, attributed, says_nothing, declaration, begins_with_colon, ended, three, list_entry, entry_of}
use Rattle.text_reading.specs.Reading.{place_of}
use Rattle.ari_text.specs.Faults.{Room, declaration_faults, with_symbol, symbols_after, symbols_of, room_after, count_faults, all_declaration_faults}
use Rattle.names_text.proofs.SymbolTables.{distinct_symbol}

pub none_of : (xs ys : List AriFault) → xs ++ ys ≡ [] → (xs ≡ []) × (ys ≡ [])
none_of [] ys e = (refl, e)
none_of (x ∷ xs) ys e = absurd cc

pub none_last : (xs : List AriFault) (x : AriFault) → xs ++ x ∷ [] ≡ [] → ⊥
none_last [] x e = cc
none_last (y ∷ xs) x e = cc

-- the faults of an item and those of the others behind it
pub record NoneOf (symbols : List Declared) (room : Room) (x : Item) (xs : Items) : Type 0 where
  pub counted : count_faults room (place_of x) (entry_of x) ≡ []
  pub declared : declaration_faults symbols (place_of x) (entry_of x) ≡ []
  pub others : all_declaration_faults (symbols_after symbols (entry_of x)) (room_after room (entry_of x)) xs ≡ []

pub none_of_items : (symbols : List Declared) (room : Room) (x : Item) (xs : Items) → all_declaration_faults symbols room (item x xs) ≡ [] → NoneOf symbols room x xs
none_of_items symbols room x xs e =
    let whole = none_of (count_faults room (place_of x) (entry_of x) ++ declaration_faults symbols (place_of x) (entry_of x)) _ e in
    let here = none_of (count_faults room (place_of x) (entry_of x)) (declaration_faults symbols (place_of x) (entry_of x)) whole.0 in
    record { counted = here.0; declared = here.1; others = whole.1 }

-- ---- the names are words

abbrev SaysWord : Saying → Type 0
SaysWord (declares name q arity r) = is_word name ≡ true
SaysWord (rewrites left right) = Unit {0}
SaysWord (attributed s at) = Unit {0}
SaysWord says_nothing = Unit {0}

word_test : (w : List ℕ) → IsWord w → is_word w ≡ true
word_test [] h = absurd h
word_test (b ∷ bs) h = all_letters (b ∷ bs) h

declared_word : (x y : Item) → HasWords x → SaysWord (declaration x y)
declared_word (a_word name q) (a_word arity r) h = word_test name h
declared_word (a_word name q) (a_list ys r) h = tt
declared_word (a_list xs q) y h = tt

word_of_three : (is_fun is_rule : Bool) (x y : Item) → HasWords x → SaysWord (cond is_fun (declaration x y) (cond is_rule (rewrites x y) says_nothing))
word_of_three true is_rule x y h = declared_word x y h
word_of_three false true x y h = tt
word_of_three false false x y h = tt

word_of_attribute : (b : Bool) (s : Saying) (at : ℕ) → SaysWord (cond b (attributed s at) says_nothing)
word_of_attribute true s at = tt
word_of_attribute false s at = tt

word_of_end : (s : Saying) (more : Items) → SaysWord s → SaysWord (ended s more)
word_of_end s no_items h = h
word_of_end s (item (a_list xs q) more) h = tt
word_of_end s (item (a_word w q) more) h = word_of_attribute (begins_with_colon w) s q

word_of_list : (xs : Items) → AreWords xs → SaysWord (list_entry xs)
word_of_list no_items h = tt
word_of_list (item (a_list ys p) xs) h = tt
word_of_list (item (a_word head p) no_items) h = tt
word_of_list (item (a_word head p) (item x no_items)) h = tt
word_of_list (item (a_word head p) (item x (item y more))) h =
    word_of_end (three head x y) more (word_of_three (bytes_eq head (codes "fun")) (bytes_eq head (codes "rule")) x y h.1.0)

word_of_entry : (x : Item) → HasWords x → SaysWord (entry_of x)
word_of_entry (a_word w at) h = tt
word_of_entry (a_list xs at) h = word_of_list xs h

all_push : (names : List (List ℕ)) (n : List ℕ) → list_all is_word names ≡ true → is_word n ≡ true → list_all is_word (names ++ n ∷ []) ≡ true
all_push [] n h e = and_from (is_word n) true e refl
all_push (m ∷ names) n h e =
    let parts = and_parts (is_word m) (list_all is_word names) h in
    and_from (is_word m) (list_all is_word (names ++ n ∷ [])) parts.0 (all_push names n parts.1 e)

-- ---- names, distinct and words, and arities, each at most 255

pub record AreSymbols (symbols : List Declared) : Type 0 where
  pub words : list_all is_word (names_of symbols) ≡ true
  pub distinct : are_distinct (names_of symbols) ≡ true
  pub small : AllByRecursion (λ a. a ≤ 255) (arities_of symbols)

pub no_symbols : AreSymbols []
no_symbols = record { words = refl; distinct = refl; small = tt }

small_push : (symbols : List Declared) (name : List ℕ) (n : ℕ) → AllByRecursion (λ a. a ≤ 255) (arities_of symbols) → n ≤ 255
    → AllByRecursion (λ a. a ≤ 255) (arities_of (symbols ++ (name, n) ∷ []))
small_push [] name n h le = (le, tt)
small_push (s ∷ symbols) name n h le = (h.0, small_push symbols name n h.1 le)

symbols_with : (symbols : List Declared) (name : List ℕ) (known : Option Symbol) (arity : Option ℕ) → symbol_named symbols name ≡ known → is_word name ≡ true → ((n : ℕ) → arity ≡ Some n → n ≤ 255)
    → AreSymbols symbols → AreSymbols (with_symbol symbols name known arity)
symbols_with symbols name (Some k) arity e w small h = h
symbols_with symbols name None None e w small h = h
symbols_with symbols name None (Some n) e w small h = record {
  words = rw (map-append (λ (s : Declared). s.0) symbols ((name, n) ∷ [])) (all_push (names_of symbols) name h.words w);
  distinct = distinct_symbol symbols name n e h.distinct;
  small = small_push symbols name n h.small (small n refl);
}

symbols_and : (symbols : List Declared) (s : Saying) → SaysWord s → AreSymbols symbols → AreSymbols (symbols_after symbols s)
symbols_and symbols (declares name q arity r) w h =
    symbols_with symbols name (symbol_named symbols name) (digits_value 255 arity) refl w (λ n e. digits_within 255 arity n e) h
symbols_and symbols (rewrites left right) w h = h
symbols_and symbols (attributed s at) w h = h
symbols_and symbols says_nothing w h = h

pub are_symbols : (symbols : List Declared) (xs : Items) → AreWords xs → AreSymbols symbols → AreSymbols (symbols_of symbols xs)
are_symbols symbols no_items w h = h
are_symbols symbols (item x xs) w h =
    are_symbols (symbols_after symbols (entry_of x)) xs w.1 (symbols_and symbols (entry_of x) (word_of_entry x w.0) h)

-- ---- at most 4,095 symbols

not_last : (n at : ℕ) → cond (n == 1) (TooMany at ∷ []) [] ≡ [] → n ≢ 1
not_last n at e is = let h : TooMany at ∷ [] ≡ [] = rw is at e in cc

with_length : (symbols : List Declared) (name : List ℕ) (known : Option Symbol) (arity : Option ℕ) → length (with_symbol symbols name known arity) ≤ length symbols + 1
with_length symbols name (Some k) arity = omega arith
with_length symbols name None None = omega arith
with_length symbols name None (Some n) = omega (arith, length-append symbols ((name, n) ∷ []))

-- the symbols and the `fun` items that may still come, before and after an item
record FunsFit (symbols later : List Declared) (room left : Room) : Type 0 where
  more : 1 ≤ left.funs
  fit : length later + left.funs ≤ length symbols + room.funs

funs_fit : (symbols : List Declared) (room : Room) (at : ℕ) (s : Saying) → count_faults room at s ≡ [] → declaration_faults symbols at s ≡ [] → 1 ≤ room.funs
    → FunsFit symbols (symbols_after symbols s) room (room_after room s)
funs_fit symbols room at (declares name q arity r) e f h =
    let more : room.funs ≢ 1 = not_last room.funs at e in
    record { more = omega arith; fit = omega (arith, with_length symbols name (symbol_named symbols name) (digits_value 255 arity)) }
funs_fit symbols room at (rewrites left right) e f h = record { more = h; fit = omega arith }
funs_fit symbols room at (attributed s q) e f h = absurd (none_last (declaration_faults symbols at s) (Attribute q) f)
funs_fit symbols room at says_nothing e f h = record { more = h; fit = omega arith }

pub symbols_length : (symbols : List Declared) (room : Room) (xs : Items) → all_declaration_faults symbols room xs ≡ [] → 1 ≤ room.funs
    → length (symbols_of symbols xs) + 1 ≤ length symbols + room.funs
symbols_length symbols room no_items e h = omega arith
symbols_length symbols room (item x xs) e h =
    let none = none_of_items symbols room x xs e in
    let here = funs_fit symbols room (place_of x) (entry_of x) none.counted none.declared h in
    omega (arith, here.fit, symbols_length (symbols_after symbols (entry_of x)) (room_after room (entry_of x)) xs none.others here.more)
