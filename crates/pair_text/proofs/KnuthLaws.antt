-- Tables of Knuth-Bendix orders: what is read is in range and without fault, and what is printed is read again.
use Rattle.std.proofs.Common.{◌≡◌, ◌≢◌, ℕ, zero, suc, ◌-◌, ◌<◌, ◌≤◌, ◌^◌, ◌==◌, ◌&&◌, ◌||◌, not, nat_lt, Bool, true, false, cond, List, [], ◌∷◌, ◌++◌, length, map, take, slice_get, Option, Some, None, Ok, Err, IsTrue, refl, sym, ap, ap₂, subst, ◌∙◌, append_assoc, arith}
use Rattle.std.specs.List.{AllByRecursion, list_all}
use Rattle.std.specs.Prelude.{All}
use Rattle.std.proofs.lemmas.List.Elements.{All-from_recursion, recursion_from_All}
use Rattle.std.proofs.lemmas.Bool.{and_parts, and_from, lt-ltb, ltb-true, eq-eqb, eqb-true}
use Rattle.std.proofs.lemmas.List.{append-nil}
use Rattle.sexp_core.specs.Items.{Item, a_word, a_list, Items, no_items, item, items_of}
use Rattle.sexp_core.specs.Printed.{placeless}
use Rattle.trs_defs.specs.Variable.{is_listed}
use Rattle.order_theory.specs.KnuthBendix.{arity_with_marks}
use Rattle.kbo_order.specs.Table.{symbol_of}
use Rattle.kbo_order.specs.declared.entries.KboEntry.{KboEntry}
use Rattle.kbo_order.specs.declared.faults.KboFault.{KboFault}
use Rattle.kbo_order.specs.declared.faults.KboFault.TheVariants as fault
use Rattle.kbo_order.specs.Faults.{IsEntryFault, IsRankedBelow, IsOnTop, IsTopFault, HasFaultAt, HasTopFaultAt, IsFaultless}
use Rattle.kbo_order.specs.WellMade.{IsKboEntry}
use Rattle.names_text.specs.Named.{NamedSystem, IsNamed}
use Rattle.names_text.specs.declared.table.Symbol.{Symbol}
use Rattle.text_reading.specs.Reading.{Read, ◌<*>◌, ended, form, place_of}
use Rattle.text_reading.specs.Numbers.{number}
use Rattle.text_reading.specs.Printed.{number_item}
use Rattle.text_reading.proofs.Made.{Makes, ok_same, applied, made_part, made_form, made_number}
use Rattle.text_reading.proofs.Again.{Spells, SpellsAll, SpellsParts, spells_number}
use Rattle.pair_text.specs.LongLists.{lacks, anything, items_behind}
use Rattle.pair_text.specs.InTurn.{before_others, in_turn}
use Rattle.pair_text.specs.Symbols.{marked_symbol}
use Rattle.pair_text.proofs.LongListLaws.{made_anything}
use Rattle.pair_text.specs.Entries.{new_symbol, by_symbol, entries, with_symbol_of, AreNewBehind}
use Rattle.pair_text.proofs.EntryLaws.{IsNewSymbol, IsNewEntry, entry_made, SpellsForm, entry_again, entries_made, entries_again}
use Rattle.pair_text.specs.KnuthEntries.{weighed, weight_and_rank, stated_form, stated_entry, is_too_light, only_stated, kbo_form, kbo_entry, kbo_entry_item, is_below, is_on_top, with_stated, stated, is_low, first_low, with_place, kbo_entries}

-- ---- what an entry states

-- the entry of a symbol, with numbers in range
record IsStatedOf (s : Symbol) (e : KboEntry) : Type 0 where
  symbol : e.symbol ≡ s.number
  arity : e.arity ≡ s.arity
  weight : e.weight < 2 ^ 63
  rank : e.rank < 2 ^ 63

stated_made : (s : Symbol) (at : ℕ) (xs : Items) (e : KboEntry) → stated_form s at xs ≡ Ok e → IsStatedOf s e
stated_made s at xs v e =
    let (weight, wl, (rank, rl, same)) =
    made_form weight_and_rank _ (weighed s)
    (made_part (number (2 ^ 63 - 1)) _ (λ n. n ≤ (2 ^ 63 - 1)) _ (made_number (2 ^ 63 - 1))
    (made_part (number (2 ^ 63 - 1)) anything (λ n. n ≤ (2 ^ 63 - 1)) (λ g w. g ≡ w) (made_number (2 ^ 63 - 1)) made_anything)) at xs v e
    in
    subst (IsStatedOf s) same (record { symbol = refl; arity = refl; weight = omega (arith, wl); rank = omega (arith, rl) })

-- an entry that is read states itself, and is not too light
record IsHeavy (r : Read KboEntry) (e : KboEntry) : Type 0 where
  stated : r ≡ Ok e
  heavy : is_too_light e ≡ false

heavy_by : (b : Bool) (at : ℕ) (more : Items) (d e : KboEntry) → is_too_light d ≡ b → (let r : Read KboEntry = cond b (Err at) (ended (Ok d) more) in r ≡ Ok e) → IsHeavy (Ok d) e
heavy_by true at more d e light is = absurd cc
heavy_by false at no_items d e light is =
    let T : KboEntry → Type 0 = λ z. is_too_light z ≡ false in
    record { stated = is; heavy = subst T (ok_same d e is) light }
heavy_by false at (item x xs) d e light is = absurd cc

heavy_of : (at : ℕ) (more : Items) (r : Read KboEntry) (e : KboEntry) → only_stated at more r ≡ Ok e → IsHeavy r e
heavy_of at more (Err p) e is = absurd cc
heavy_of at more (Ok d) e is = heavy_by (is_too_light d) at more d e refl is

abbrev IsReadable : List ℕ → KboEntry → Type 0
IsReadable arities e = IsKboEntry arities e × (is_too_light e ≡ false)

kbo_made : (named : NamedSystem) → length named.system.arities ≤ 4095 → (known : List ℕ) → Makes (kbo_entry named known) (IsNewEntry symbol_of (IsReadable named.system.arities) known)
kbo_made named few known =
    entry_made named few 2 kbo_form (IsNewEntry symbol_of (IsReadable named.system.arities) known) known (λ s new at xs v e.
    let h = heavy_of at (items_behind 2 xs) (stated_form s at xs) v e in
    let m = stated_made s at xs v h.stated in
    let arity : arity_with_marks named.system.arities v.symbol ≡ Some v.arity = ap (arity_with_marks named.system.arities) m.symbol ∙ new.arity ∙ ap Some (sym m.arity) in
    (((arity, m.weight, m.rank), h.heavy), ap (λ f. is_listed f known) m.symbol ∙ new.new))

-- ---- each entry states itself

abbrev AllStated : NamedSystem → Items → List KboEntry → Type 0
AllStated named no_items [] = Unit {0}
AllStated named no_items (e ∷ es) = ⊥
AllStated named (item x xs) [] = ⊥
AllStated named (item x xs) (e ∷ es) = (stated_entry named x ≡ Ok e) × AllStated named xs es

states_new : (b : Bool) (at : ℕ) (s : Symbol) (xs : Items) (e : KboEntry) → by_symbol (cond b (Err at) (Ok s)) kbo_form at xs ≡ Ok e → stated_form s at xs ≡ Ok e
states_new true at s xs e is = absurd cc
states_new false at s xs e is = (heavy_of at (items_behind 2 xs) (stated_form s at xs) e is).stated

states_symbol : (long : Bool) (known : List ℕ) (at : ℕ) (m : Read Symbol) (xs : Items) (e : KboEntry)
    → (let r : Read KboEntry = cond long (Err at) (by_symbol (new_symbol known at m) kbo_form at xs) in r ≡ Ok e)
    → (let r : Read KboEntry = cond long (Err at) (by_symbol (new_symbol [] at m) stated_form at xs) in r ≡ Ok e)
states_symbol true known at m xs e is = absurd cc
states_symbol false known at (Err p) xs e is = absurd cc
states_symbol false known at (Ok s) xs e is = states_new (is_listed s.number known) at s xs e is

states : (named : NamedSystem) (known : List ℕ) (x : Item) (e : KboEntry) → kbo_entry named known x ≡ Ok e → stated_entry named x ≡ Ok e
states named known (a_word w at) e is = absurd cc
states named known (a_list no_items at) e is = absurd cc
states named known (a_list (item head no_items) at) e is = absurd cc
states named known (a_list (item head (item name xs)) at) e is = states_symbol (lacks 2 xs) known at (marked_symbol named head name) xs e is

all_before : (named : NamedSystem) (x : Item) (xs : Items) (r : Read KboEntry) (others : KboEntry → Read (List KboEntry)) (es : List KboEntry) → ((e : KboEntry) → r ≡ Ok e → stated_entry named x ≡ Ok e)
    → ((e : KboEntry) (ws : List KboEntry) → others e ≡ Ok ws → AllStated named xs ws) → before_others r others ≡ Ok es → AllStated named (item x xs) es
all_before named x xs (Err p) others es here behind is = absurd cc
all_before named x xs (Ok e) others es here behind is =
    let b = applied (Ok (λ (ws : List KboEntry). e ∷ ws)) (others e) es is in
    let same : e ∷ b.value ≡ es = ap (λ (f : List KboEntry → List KboEntry). f b.value) (ok_same _ _ b.is_make) ∙ b.made in
    subst (AllStated named (item x xs)) same (here e refl, behind e b.value b.is_value)

all_stated : (named : NamedSystem) (xs : Items) (known : List ℕ) (es : List KboEntry) → in_turn (with_symbol_of symbol_of) (kbo_entry named) xs known ≡ Ok es → AllStated named xs es
all_stated named no_items known es is = subst (AllStated named no_items) (ok_same [] es is) tt
all_stated named (item x xs) known es is =
    all_before named x xs (kbo_entry named known x) (λ e. in_turn (with_symbol_of symbol_of) (kbo_entry named) xs (with_symbol_of symbol_of known e)) es
    (λ e k. states named known x e k) (λ e ws k. all_stated named xs (with_symbol_of symbol_of known e) ws k) is

stated_are : (named : NamedSystem) (xs : Items) (es : List KboEntry) → AllStated named xs es → stated named xs ≡ es
stated_are named no_items [] h = refl
stated_are named no_items (e ∷ es) h = absurd h
stated_are named (item x xs) [] h = absurd h
stated_are named (item x xs) (e ∷ es) h = ap (λ (r : Read KboEntry). with_stated r (stated named xs)) h.0 ∙ ap (λ ws. e ∷ ws) (stated_are named xs es h.1)

-- ---- symbols on top

none_behind : (b : Bool) (p : ℕ) (o : Option ℕ) → cond b (Some p) o ≡ None → (b ≡ false) × (o ≡ None)
none_behind true p o is = absurd cc
none_behind false p o is = (refl, is)

on_top_by : (b : Bool) → not b ≡ false → b ≡ true
on_top_by true is = refl
on_top_by false is = absurd cc

tops : (named : NamedSystem) (all : List KboEntry) (xs : Items) (es : List KboEntry) → AllStated named xs es → first_low named all xs ≡ None → AllByRecursion (λ e. is_on_top all e ≡ true) es
tops named all no_items [] h is = tt
tops named all no_items (e ∷ es) h is = absurd h
tops named all (item x xs) [] h is = absurd h
tops named all (item x xs) (e ∷ es) h is =
    let n = none_behind (is_low all (stated_entry named x)) (place_of x) (first_low named all xs) is in
    (on_top_by (is_on_top all e) (sym (ap (is_low all) h.0) ∙ n.0), tops named all xs es h.1 n.1)

no_low : (named : NamedSystem) (all : List KboEntry) (xs : Items) (es : List KboEntry) → AllStated named xs es → AllByRecursion (λ e. is_on_top all e ≡ true) es → first_low named all xs ≡ None
no_low named all no_items [] h t = refl
no_low named all no_items (e ∷ es) h t = absurd h
no_low named all (item x xs) [] h t = absurd h
no_low named all (item x xs) (e ∷ es) h t =
    let high : is_low all (stated_entry named x) ≡ false = ap (is_low all) h.0 ∙ ap not t.0 in
    ap (λ (b : Bool). cond b (Some (place_of x)) (first_low named all xs)) high ∙ no_low named all xs es h.1 t.1

-- ---- faults

abbrev RankedBelow : ℕ → ℕ → KboEntry → Type 0
RankedBelow f rank o = o.symbol ≢ f → o.rank < rank

ranked : (f rank : ℕ) (o : KboEntry) (b : Bool) → (o.symbol == f) ≡ b → (b || nat_lt o.rank rank) ≡ true → RankedBelow f rank o
ranked f rank o true e is = λ other. absurd (other (eqb-true o.symbol f e))
ranked f rank o false e is = λ other. ltb-true o.rank rank is

all_ranked : (f rank : ℕ) (es : List KboEntry) → list_all (is_below f rank) es ≡ true → AllByRecursion (RankedBelow f rank) es
all_ranked f rank [] is = tt
all_ranked f rank (e ∷ es) is =
    let parts = and_parts (is_below f rank e) (list_all (is_below f rank) es) is in
    (ranked f rank e (e.symbol == f) refl parts.0, all_ranked f rank es parts.1)

below_by : (f rank : ℕ) (o : KboEntry) (b : Bool) → (o.symbol == f) ≡ b → RankedBelow f rank o → (b || nat_lt o.rank rank) ≡ true
below_by f rank o true e h = refl
below_by f rank o false e h = lt-ltb o.rank rank (h (λ same. absurd (let yes' : (o.symbol == f) ≡ true = eq-eqb o.symbol f same in cc)))

all_below : (f rank : ℕ) (es : List KboEntry) → AllByRecursion (RankedBelow f rank) es → list_all (is_below f rank) es ≡ true
all_below f rank [] h = refl
all_below f rank (e ∷ es) h = and_from (is_below f rank e) (list_all (is_below f rank) es) (below_by f rank e (e.symbol == f) refl h.0) (all_below f rank es h.1)

both_tests : (a w n : ℕ) → a ≡ n → w ≡ 0 → (a == n && w == 0) ≡ true
both_tests a w n ea ew = and_from (a == n) (w == 0) (eq-eqb a n ea) (eq-eqb w 0 ew)

on_top_is : (es : List KboEntry) (e : KboEntry) → is_on_top es e ≡ true → IsOnTop es e
on_top_is es e is = λ unary weightless.
    let test = both_tests e.arity e.weight 1 unary weightless in
    let below : list_all (is_below e.symbol e.rank) es ≡ true = sym (ap (λ (b : Bool). cond b (list_all (is_below e.symbol e.rank) es) true) test) ∙ is in
    All-from_recursion (RankedBelow e.symbol e.rank) es (all_ranked e.symbol e.rank es below)

not_listed : (es : List KboEntry) (known : List ℕ) (k : ℕ) (e : KboEntry) → AreNewBehind known (map symbol_of es) → slice_get es k ≡ Some e → is_listed e.symbol (known ++ map symbol_of (take k es)) ≡ false
not_listed [] known k e new at = absurd cc
not_listed (d ∷ es) known zero e new at =
    let same : d ≡ e = cc in
    ap (is_listed e.symbol) (append-nil known) ∙ ap (λ (z : KboEntry). is_listed z.symbol known) (sym same) ∙ new.0
not_listed (d ∷ es) known (suc k) e new at =
    ap (is_listed e.symbol) (sym (append_assoc known (d.symbol ∷ []) (map symbol_of (take k es)))) ∙ not_listed es (known ++ d.symbol ∷ []) k e new.1 at

at_index : {X : Type 0} (P : X → Type 0) (xs : List X) (k : ℕ) (x : X) → AllByRecursion P xs → slice_get xs k ≡ Some x → P x
at_index P [] k x h at = absurd cc
at_index {X} P (y ∷ xs) zero x h at = let same : y ≡ x = cc in subst P same h.0
at_index P (y ∷ xs) (suc k) x h at = at_index P xs k x h.1 at

from_index : {X : Type 0} (P : X → Type 0) (xs : List X) → ((k : ℕ) (x : X) → slice_get xs k ≡ Some x → P x) → AllByRecursion P xs
from_index P [] h = tt
from_index P (x ∷ xs) h = (h 0 x refl, from_index P xs (λ k y at. h (suc k) y at))

module _ (arities : List ℕ) (es : List KboEntry) (each : AllByRecursion (IsReadable arities) es) (new : AreNewBehind [] (map symbol_of es)) where
  no_fault : (k : ℕ) (f : KboFault) → HasFaultAt es k f → ⊥
  no_fault k (fault.Twice f) (e, at, (same, listed)) =
      let fresh = not_listed es [] k e new at in
      let there : is_listed e.symbol (map symbol_of (take k es)) ≡ true = ap (λ g. is_listed g (map symbol_of (take k es))) (sym same) ∙ listed in
      cc
  no_fault k (fault.ConstantTooLight f) (e, at, (same, constant, weightless)) =
      let light : is_too_light e ≡ true = both_tests e.arity e.weight 0 constant weightless in
      let heavy : is_too_light e ≡ false = (at_index (IsReadable arities) es k e each at).1 in
      cc
  no_fault k (fault.TooBig f) (e, at, (same, big)) =
      let small : e.weight < 2 ^ 63 = (at_index (IsReadable arities) es k e each at).0.1 in
      absurd (omega arith)
  no_fault k (fault.UnaryNotTop f) (e, at, never) = never
  no_fault k fault.OutOfMemory (e, at, never) = never

  no_top_fault : AllByRecursion (λ e. is_on_top es e ≡ true) es → (k : ℕ) (f : KboFault) → HasTopFaultAt es k f → ⊥
  no_top_fault t k (fault.UnaryNotTop f) (e, at, (same, low)) = low (on_top_is es e (at_index (λ d. is_on_top es d ≡ true) es k e t at))
  no_top_fault t k (fault.Twice f) (e, at, never) = never
  no_top_fault t k (fault.ConstantTooLight f) (e, at, never) = never
  no_top_fault t k (fault.TooBig f) (e, at, never) = never
  no_top_fault t k fault.OutOfMemory (e, at, never) = never

  faultless : AllByRecursion (λ e. is_on_top es e ≡ true) es → IsFaultless es
  faultless t = record { none = no_fault; none_on_top = no_top_fault t }

-- ---- what is read

pub record AreKnuthEntries (arities : List ℕ) (es : List KboEntry) : Type 0 where
  pub each : AllByRecursion (IsKboEntry arities) es
  pub new : AreNewBehind [] (map symbol_of es)
  pub faultless : IsFaultless es

in_range_only : (arities : List ℕ) (es : List KboEntry) → AllByRecursion (IsReadable arities) es → AllByRecursion (IsKboEntry arities) es
in_range_only arities [] h = tt
in_range_only arities (e ∷ es) h = (h.0.0, in_range_only arities es h.1)

record IsPlaceless (o : Option ℕ) (r : Read (List KboEntry)) (es : List KboEntry) : Type 0 where
  none : o ≡ None
  read : r ≡ Ok es

is_placeless : (o : Option ℕ) (r : Read (List KboEntry)) (es : List KboEntry) → with_place o r ≡ Ok es → IsPlaceless o r es
is_placeless None r es e = record { none = refl; read = e }
is_placeless (Some p) (Ok ds) es e = absurd cc
is_placeless (Some p) (Err q) es e = absurd cc

pub kbo_entries_made : (named : NamedSystem) → length named.system.arities ≤ 4095 → (xs : Items) (es : List KboEntry) → kbo_entries named xs ≡ Ok es → AreKnuthEntries named.system.arities es
kbo_entries_made named few xs es e =
    let parts = is_placeless (first_low named (stated named xs) xs) (entries symbol_of (kbo_entry named) xs) es e in
    let (each, new) = entries_made symbol_of (kbo_entry named) (IsReadable named.system.arities) (kbo_made named few) xs es parts.read in
    let states_all = all_stated named xs [] es parts.read in
    let none : first_low named es xs ≡ None = ap (λ (ds : List KboEntry). first_low named ds xs) (sym (stated_are named xs es states_all)) ∙ parts.none in
    record {
      each = in_range_only named.system.arities es each;
      new = new;
      faultless = faultless named.system.arities es each new (tops named es xs es states_all none);
    }

-- ---- what is printed is read again

light_by : (es : List KboEntry) (k : ℕ) (e : KboEntry) (b : Bool) → IsFaultless es → slice_get es k ≡ Some e → is_too_light e ≡ b → is_too_light e ≡ false
light_by es k e false f at test = test
light_by es k e true f at test =
    let parts = and_parts (e.arity == 0) (e.weight == 0) test in
    absurd (f.none k (fault.ConstantTooLight e.symbol) (e, at, (refl, eqb-true e.arity 0 parts.0, eqb-true e.weight 0 parts.1)))

top_by : (es : List KboEntry) (k : ℕ) (e : KboEntry) (unary below : Bool) → IsFaultless es → slice_get es k ≡ Some e → (e.arity == 1 && e.weight == 0) ≡ unary → list_all (is_below e.symbol e.rank) es ≡ below
    → cond unary (list_all (is_below e.symbol e.rank) es) true ≡ true
top_by es k e false below f at u b = refl
top_by es k e true true f at u b = b
top_by es k e true false f at u b =
    let parts = and_parts (e.arity == 1) (e.weight == 0) u in
    absurd (f.none_on_top k (fault.UnaryNotTop e.symbol) (
      e,
      at,
      (
        refl,
        λ top.
            let all : list_all (is_below e.symbol e.rank) es ≡ true =
            all_below e.symbol e.rank es (recursion_from_All (RankedBelow e.symbol e.rank) es (top (eqb-true e.arity 1 parts.0) (eqb-true e.weight 0 parts.1))) in
            cc,
      ),
    ))

kbo_form_again : (s : Symbol) (e : KboEntry) → weighed s e.weight e.rank ≡ e → e.weight < 2 ^ 63 → e.rank < 2 ^ 63 → is_too_light e ≡ false
    → SpellsForm (kbo_form s) 0 (items_of (number_item e.weight ∷ number_item e.rank ∷ [])) e
kbo_form_again s e same weight rank heavy =
    let w = spells_number (2 ^ 63 - 1) e.weight (omega (arith, weight)) (omega (arith, weight)) in
    let r = spells_number (2 ^ 63 - 1) e.rank (omega (arith, rank)) (omega (arith, rank)) in
    record { again = go w r; words = (w.words, (r.words, tt)); deep = omega (arith, w.deep, r.deep) }
  where
    go : Spells (number (2 ^ 63 - 1)) 0 (number_item e.weight) e.weight → Spells (number (2 ^ 63 - 1)) 0 (number_item e.rank) e.rank
        → (at : ℕ) (ys : Items) → placeless ys ≡ item (number_item e.weight) (item (number_item e.rank) no_items) → kbo_form s at ys ≡ Ok e
    go w r at no_items is = absurd cc
    go w r at (item y no_items) is = absurd cc
    go w r at (item y (item z (item u us))) is = absurd cc
    go w r at (item y (item z no_items)) is =
        let numbers : stated_form s at (item y (item z no_items)) ≡ Ok e =
        ap₂ (λ (a b : Read ℕ). Ok (weighed s) <*> a <*> b) (w.again y cc) (r.again z cc) ∙ ap (λ (d : KboEntry). let q : Read KboEntry = Ok d in q) same in
        ap (only_stated at no_items) numbers ∙ ap (λ (b : Bool). cond b (Err at) (let q : Read KboEntry = Ok e in q)) heavy

kbo_again : (named : NamedSystem) → IsNamed named → (known : List ℕ) (e : KboEntry) → IsReadable named.system.arities e → is_listed e.symbol known ≡ false
    → Spells (kbo_entry named known) 1 (kbo_entry_item named e) e
kbo_again named is known e ((arity, weight, rank), heavy) new =
    entry_again named is 2 kbo_form known e.symbol e.arity 0 (items_of (number_item e.weight ∷ number_item e.rank ∷ [])) e (record { arity = arity; new = new }) refl
    (kbo_form_again (record { number = e.symbol; arity = e.arity }) e refl weight rank heavy)

with_heavy : (arities : List ℕ) (es : List KboEntry) → AllByRecursion (IsKboEntry arities) es → AllByRecursion (λ e. is_too_light e ≡ false) es → AllByRecursion (IsReadable arities) es
with_heavy arities [] h k = tt
with_heavy arities (e ∷ es) h k = ((h.0, k.0), with_heavy arities es h.1 k.1)

pub kbo_entries_again : (named : NamedSystem) → IsNamed named → (es : List KboEntry) → AreKnuthEntries named.system.arities es
    → SpellsAll (kbo_entries named) 1 (items_of (map (kbo_entry_item named) es)) es
kbo_entries_again named is es h =
    let heavy = from_index (λ e. is_too_light e ≡ false) es (λ k e at. light_by es k e (is_too_light e) h.faultless at refl) in
    let top = from_index (λ e. is_on_top es e ≡ true) es (λ k e at. top_by es k e (e.arity == 1 && e.weight == 0) (list_all (is_below e.symbol e.rank) es) h.faultless at refl refl) in
    let s = entries_again symbol_of (kbo_entry named) (kbo_entry_item named) 1 (IsReadable named.system.arities) (kbo_again named is) es (with_heavy named.system.arities es h.each heavy) h.new in
    record { again = go top s; words = s.words; deep = s.deep }
  where
    go : AllByRecursion (λ e. is_on_top es e ≡ true) es → SpellsAll (entries symbol_of (kbo_entry named)) 1 (items_of (map (kbo_entry_item named) es)) es
        → (ys : Items) → placeless ys ≡ placeless (items_of (map (kbo_entry_item named) es)) → kbo_entries named ys ≡ Ok es
    go top s ys same =
        let read = s.again ys same in
        let states_all = all_stated named ys [] es read in
        let none : first_low named (stated named ys) ys ≡ None = ap (λ (ds : List KboEntry). first_low named ds ys) (stated_are named ys es states_all) ∙ no_low named es ys es states_all top in
        ap (λ (o : Option ℕ). with_place o (entries symbol_of (kbo_entry named) ys)) none ∙ read
