-- Entries of symbols: what is read, and what is read again.
use Rattle.std.proofs.Common.{map, ◌≡◌, ℕ, suc, ◌≤◌, ◌+◌, nat_lt, Bool, true, false, cond, List, [], ◌∷◌, ◌++◌, length, Some, Ok, Err, refl, sym, ap, ap₂, subst, ◌∙◌, arith}
use Rattle.std.specs.List.{AllByRecursion}
use Rattle.sexp_core.specs.Items.{Item, a_word, a_list, Items, no_items, item, items_of}
use Rattle.sexp_core.specs.Printed.{AreWords, nesting, bare, placeless}
use Rattle.trs_defs.specs.Variable.{is_listed}
use Rattle.order_theory.specs.KnuthBendix.{arity_with_marks}
use Rattle.names_text.specs.Named.{NamedSystem, IsNamed}
use Rattle.names_text.specs.declared.table.Symbol.{Symbol}
use Rattle.text_reading.specs.Reading.{Read, ◌<*>◌, Form, form, Parts}
use Rattle.text_reading.proofs.Made.{Makes, MakesForm, ok_same}
use Rattle.text_reading.proofs.Again.{Spells, SpellsAll, SpellsParts}
use Rattle.pair_text.specs.LongLists.{lacks}
use Rattle.pair_text.specs.InTurn.{in_turn, AllInTurn}
use Rattle.pair_text.specs.Symbols.{symbol, mark, with_mark, marked_symbol, mark_word, unmarked, name_item}
use Rattle.pair_text.specs.Entries.{new_symbol, by_symbol, entry, entry_item, with_symbol_of, entries, AreNewBehind}
use Rattle.pair_text.proofs.InTurnLaws.{made_in_turn, spells_in_turn}
use Rattle.pair_text.proofs.LongListLaws.{lacks_same}
use Rattle.pair_text.proofs.SymbolLaws.{marked_made, symbol_again, is_marked, added_by}

-- ---- what is read

-- a symbol with this arity that is none of those before
pub record IsNewSymbol (arities known : List ℕ) (f n : ℕ) : Type 0 where
  pub arity : arity_with_marks arities f ≡ Some n
  pub new : is_listed f known ≡ false

made_new : {B : Type 0} (arities known : List ℕ) (at : ℕ) (s : Symbol) (b : Bool) (more : Symbol → Form B) (P : B → Type 0) → is_listed s.number known ≡ b → arity_with_marks arities s.number ≡ Some s.arity
    → ((t : Symbol) → IsNewSymbol arities known t.number t.arity → MakesForm (more t) P) → (xs : Items) (v : B) → by_symbol (cond b (Err at) (Ok s)) more at xs ≡ Ok v → P v
made_new arities known at s true more P test arity makes xs v e = absurd cc
made_new arities known at s false more P test arity makes xs v e = makes s (record { arity = arity; new = test }) at xs v e

pub made_by_symbol : {B : Type 0} (arities known : List ℕ) (at : ℕ) (r : Read Symbol) (more : Symbol → Form B) (P : B → Type 0) → ((s : Symbol) → r ≡ Ok s → arity_with_marks arities s.number ≡ Some s.arity)
    → ((t : Symbol) → IsNewSymbol arities known t.number t.arity → MakesForm (more t) P) → (xs : Items) (v : B) → by_symbol (new_symbol known at r) more at xs ≡ Ok v → P v
made_by_symbol arities known at (Err p) more P arity makes xs v e = absurd cc
made_by_symbol arities known at (Ok s) more P arity makes xs v e = made_new arities known at s (is_listed s.number known) more P refl (arity s refl) makes xs v e

made_long : {B : Type 0} (b : Bool) (at : ℕ) (r : Read B) (P : B → Type 0) (v : B) → (r ≡ Ok v → P v) → cond b (Err at) r ≡ Ok v → P v
made_long true at r P v h e = absurd cc
made_long false at r P v h e = h e

pub entry_made : {B : Type 0} (named : NamedSystem) → length named.system.arities ≤ 4095 → (least : ℕ) (more : Symbol → Form B) (P : B → Type 0) (known : List ℕ)
    → ((s : Symbol) → IsNewSymbol named.system.arities known s.number s.arity → MakesForm (more s) P) → Makes (entry named least more known) P
entry_made named few least more P known makes (a_word w at) v e = absurd cc
entry_made named few least more P known makes (a_list no_items at) v e = absurd cc
entry_made named few least more P known makes (a_list (item head no_items) at) v e = absurd cc
entry_made named few least more P known makes (a_list (item head (item name xs)) at) v e =
    made_long (lacks least xs) at (by_symbol (new_symbol known at (marked_symbol named head name)) more at xs) P v
    (λ k. made_by_symbol named.system.arities known at (marked_symbol named head name) more P (λ s is. marked_made named few head name s is) makes xs v k) e

-- ---- what is printed is read again

-- further members behind a head are read by their form
pub record SpellsForm {B : Type 0} (f : Form B) (depth : ℕ) (xs : Items) (value : B) : Type 0 where
  pub again : (at : ℕ) (ys : Items) → placeless ys ≡ placeless xs → f at ys ≡ Ok value
  pub words : AreWords xs
  pub deep : nesting xs ≤ depth

pub spells_as_form : {A B : Type 0} (parts : Parts A B) (make : A) {depth : ℕ} {xs : Items} {value : B} → SpellsParts parts depth xs make value → SpellsForm (form parts make) depth xs value
spells_as_form parts make s = record { again = s.again; words = s.words; deep = s.deep }

pub entry_again : {B : Type 0} (named : NamedSystem) → IsNamed named → (least : ℕ) (more : Symbol → Form B) (known : List ℕ) (f n : ℕ) (depth : ℕ) (xs : Items) (value : B)
    → IsNewSymbol named.system.arities known f n → lacks least xs ≡ false → SpellsForm (more (record { number = f; arity = n })) depth xs value
    → Spells (entry named least more known) (suc depth) (a_list (item (a_word (mark_word f) 0) (item (name_item named (unmarked f)) xs)) 0) value
entry_again {B} named is least more known f n depth xs value new long s =
    let m = is_marked named.system.arities f n new.arity in
    let name = symbol_again named is (unmarked f) n m.arity in
    record {
      again = go m.mark_again name m.number;
      words = (m.mark_again.words, (name.words, s.words));
      deep = omega (arith, m.mark_again.deep, name.deep, s.deep);
    }
  where
    go : Spells mark 0 (a_word (mark_word f) 0) (added_by (nat_lt f 4096)) → Spells (symbol named) 0 (name_item named (unmarked f)) (record { number = unmarked f; arity = n })
        → unmarked f + added_by (nat_lt f 4096) ≡ f
        → (y : Item) → bare y ≡ a_list (item (a_word (mark_word f) 0) (item (name_item named (unmarked f)) (placeless xs))) 0
        → entry named least more known y ≡ Ok value
    go marks name same (a_word w at) e = absurd cc
    go marks name same (a_list no_items at) e = absurd cc
    go marks name same (a_list (item x no_items) at) e = absurd cc
    go marks name same (a_list (item x (item y ys)) at) e =
        let found : marked_symbol named x y ≡ Ok (record { number = f; arity = n }) =
        ap₂ (λ (r : Read ℕ) (q : Read Symbol). Ok with_mark <*> r <*> q) (marks.again x cc) (name.again y cc)
        ∙ ap (λ (g : ℕ). let r : Read Symbol = Ok (record { number = g; arity = n }) in r) same in
        let there : placeless ys ≡ placeless xs = cc in
        rw (lacks_same least xs ys there, long, found, new.new) (s.again at ys there)

-- ---- several entries

-- the entry has a property, and its symbol is not known
abbrev pub IsNewEntry : {E : Type 0} → (E → ℕ) → (E → Type 0) → List ℕ → E → Type 0
IsNewEntry symbol_of P known e = P e × (is_listed (symbol_of e) known ≡ false)

each_of : {E : Type 0} (symbol_of : E → ℕ) (P : E → Type 0) (es : List E) (known : List ℕ) → AllInTurn (with_symbol_of symbol_of) (IsNewEntry symbol_of P) es known
    → AllByRecursion P es × AreNewBehind known (map symbol_of es)
each_of symbol_of P [] known h = (tt, tt)
each_of symbol_of P (e ∷ es) known h = let (each, new) = each_of symbol_of P es (known ++ symbol_of e ∷ []) h.1 in ((h.0.0, each), (h.0.1, new))

pub in_turn_of : {E : Type 0} (symbol_of : E → ℕ) (P : E → Type 0) (es : List E) (known : List ℕ) → AllByRecursion P es → AreNewBehind known (map symbol_of es)
    → AllInTurn (with_symbol_of symbol_of) (IsNewEntry symbol_of P) es known
in_turn_of symbol_of P [] known each new = tt
in_turn_of symbol_of P (e ∷ es) known each new = ((each.0, new.0), in_turn_of symbol_of P es (known ++ symbol_of e ∷ []) each.1 new.1)

pub entries_made : {E : Type 0} (symbol_of : E → ℕ) (read : List ℕ → Item → Read E) (P : E → Type 0) → ((known : List ℕ) → Makes (read known) (IsNewEntry symbol_of P known))
    → (xs : Items) (es : List E) → entries symbol_of read xs ≡ Ok es → AllByRecursion P es × AreNewBehind [] (map symbol_of es)
entries_made symbol_of read P makes xs es e =
    each_of symbol_of P es [] (made_in_turn (with_symbol_of symbol_of) read (IsNewEntry symbol_of P) makes xs [] es e)

pub entries_again : {E : Type 0} (symbol_of : E → ℕ) (read : List ℕ → Item → Read E) (print : E → Item) (depth : ℕ) (P : E → Type 0)
    → ((known : List ℕ) (e : E) → P e → is_listed (symbol_of e) known ≡ false → Spells (read known) depth (print e) e)
    → (es : List E) → AllByRecursion P es → AreNewBehind [] (map symbol_of es) → SpellsAll (entries symbol_of read) depth (items_of (map print es)) es
entries_again symbol_of read print depth P each es h new =
    let s = spells_in_turn (with_symbol_of symbol_of) read print depth (IsNewEntry symbol_of P) (λ known e is. each known e is.0 is.1) es [] (in_turn_of symbol_of P es [] h new) in
    record { again = s.again; words = s.words; deep = s.deep }
