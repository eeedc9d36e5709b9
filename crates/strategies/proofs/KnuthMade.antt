-- The entries of a Knuth-Bendix order that is found are those of a well-made step.
use Rattle.std.specs.Prelude.{◌≡◌, ◌≢◌, ◌<◌, ◌≤◌, ℕ, ◌+◌, Bool, true, false, not, ◌||◌, ◌==◌, nat_lt, if◌then◌else◌, List, [], ◌∷◌, map, length, take, get_or, Some, slice_get}
use Rattle.std.proofs.Common.{zero, suc, refl, sym, ap, subst, arith, ◌∙◌, inl, inr}
use Rattle.std.proofs.lemmas.Bool.Decides.{nat_tests}
use Rattle.std.proofs.lemmas.Option.{slice_get_within, slice_get-get_or}
use Rattle.trs_defs.specs.Member.{In, in_first}
use Rattle.trs_defs.specs.Variable.{is_listed}
use Rattle.trs_defs.proofs.Members.{in_or, no_in, in_left, in_right, in_of_get, get_of_in, in_map, of_map}
use Rattle.trs_defs.specs.System.{System, IsSystem}
use Rattle.pair_theory.specs.ReductionPair.{marked_rule}
use Rattle.cert_step.specs.kbo_order.declared.entries.KboEntry.{KboEntry}
use Rattle.cert_step.specs.kbo_order.declared.faults.KboFault.{KboFault}
use Rattle.cert_step.specs.kbo_order.declared.faults.KboFault.TheVariants.{Twice, ConstantTooLight, TooBig, UnaryNotTop, OutOfMemory}
use Rattle.cert_step.specs.kbo_order.Table.{symbol_of}
use Rattle.cert_step.specs.kbo_order.Faults.{HasFaultAt, HasTopFaultAt, IsOnTop, IsFaultless}
use Rattle.order_find.specs.order_search.Slots.{Slot, Table, table_of, puzzle_of}
use Rattle.order_find.proofs.order_search.Solutions.{solved}
use Rattle.order_find.specs.order_search.OrderSpace.{above, is_above, arity_with_mark}
use Rattle.order_find.specs.order_search.OrderOver.{search_of}
use Rattle.order_find.proofs.order_search.Tests.{other_test, same_number, either}
use Rattle.order_find.proofs.order_search.Covered.{listed_of}
use Rattle.order_find.proofs.order_search.OwnConstraints.{own_and_others, truth_own}
use Rattle.order_find.specs.kbo_find.KboSpace.{weight_by, kbo_family, kbo_values, above_each, above_all, tops_of, kbo_tops}
use Rattle.order_find.specs.kbo_find.KboRow.{entry_by, kbo_entry, kbo_search}
use Rattle.order_find.specs.kbo_find.Laws.{FindsKbo}
use Rattle.cert_step.specs.Entries.{AreDistinct, AreKboEntries}
use Rattle.strategies.proofs.Distinctness.{names_said, each_said}
use Rattle.strategies.proofs.SymbolArities.{arity_there, all_distinct}
use Rattle.strategies.proofs.TableValues.{small_value}

-- ---- each symbol with one argument is above each other one, if it weighs nothing

above_here : (f g x : ℕ) (xs : List ℕ) → g ≢ f → g ≡ x → In (above f g) (if x == f then [] else above f x ∷ [])
above_here f g x xs other same =
    subst (λ (b : Bool). In (above f g) (if b then [] else above f x ∷ [])) (sym (other_test x f (λ e. other (same ∙ sym e))))
    (subst (λ (y : ℕ). In (above f g) (above f y ∷ [])) same in_first)

in_each : (f g : ℕ) (xs : List ℕ) → g ≢ f → In g xs → In (above f g) (above_each f xs)
in_each f g [] other i = absurd (no_in i)
in_each f g (x ∷ xs) other i = elim (in_or i) [
  | inl same ↦ in_left (above_each f xs) (above_here f g x xs other same)
  | inr later ↦ in_right (if x == f then [] else above f x ∷ []) (in_each f g xs other later)
]

self_test : (n m : ℕ) → n ≡ m → (n == m) ≡ true
self_test n m e = grind (arith, nat_tests)

module _ (arity : ℕ → ℕ) (symbols : List ℕ) where
  in_all : (f g : ℕ) → arity f ≡ 1 → In g symbols → g ≢ f → In (above f g) (above_all arity symbols f)
  in_all f g one i other =
      subst (λ (b : Bool). In (above f g) (if b then above_each f symbols else [])) (sym (self_test (arity f) 1 one)) (in_each f g symbols other i)

  in_tops : (fs : List ℕ) (f g : ℕ) → arity f ≡ 1 → In f fs → In g symbols → g ≢ f → In (above f g) (tops_of arity symbols fs)
  in_tops [] f g one i j other = absurd (no_in i)
  in_tops (h ∷ fs) f g one i j other = elim (in_or i) [
    | inl same ↦ in_left (tops_of arity symbols fs) (subst (λ (x : ℕ). In (above f g) (above_all arity symbols x)) same (in_all f g one j other))
    | inr later ↦ in_right (above_all arity symbols h) (in_tops fs f g one later j other)
  ]

-- ---- no entry has a fault

twice : (es : List KboEntry) → AreDistinct (map symbol_of es) → (k : ℕ) (e : KboEntry) → slice_get es k ≡ Some e
    → is_listed e.symbol (map symbol_of (take k es)) ≡ true → ⊥
twice [] once k e at there = absurd cc
twice (x ∷ es) once zero e at there = absurd cc
twice (x ∷ es) once (suc k) e at there = elim (either (x.symbol == e.symbol) (is_listed e.symbol (map symbol_of (take k es))) there) [
  | inl same ↦
      (let i : In e es = in_of_get es k e at in
      let listed : is_listed e.symbol (map symbol_of es) ≡ true = listed_of e.symbol (map symbol_of es) (in_map symbol_of i) in
      let not : is_listed e.symbol (map symbol_of es) ≡ false = subst (λ (n : ℕ). is_listed n (map symbol_of es) ≡ false) (same_number x.symbol e.symbol same) once.0 in
      absurd cc)
  | inr later ↦ twice es once.1 k e at later
]

constant_weighs : (n v : ℕ) → n ≡ 0 → (if n == 0 then v + 1 else v) ≡ 0 → ⊥
constant_weighs zero v e h = omega (arith, h)
constant_weighs (suc n) v e h = omega (arith, e)

weighs_nothing : (b : Bool) (v : ℕ) → (if b then v + 1 else v) ≡ 0 → v ≡ 0
weighs_nothing true v h = absurd (omega (arith, h))
weighs_nothing false v h = h

small_by : (b : Bool) (v : ℕ) → v < 8 → (if b then v + 1 else v) < 9
small_by true v h = omega (arith, h)
small_by false v h = omega (arith, h)

small_weight : (n v : ℕ) → v < 8 → (if n == 0 then v + 1 else v) < 9
small_weight n v h = small_by (n == 0) v h

ranked : (z a b : ℕ) → z ≡ 0 → (not (z == 0) || nat_lt a b) ≡ true → a < b
ranked z a b e h = grind (arith, nat_tests)

module _ (arity : ℕ → ℕ) (table : Table) (symbols : List ℕ) (distinct : AreDistinct symbols) (small : (f part : ℕ) → table f part < 8)
    (tops : (f g : ℕ) → In f symbols → In g symbols → arity f ≡ 1 → g ≢ f → is_above table f g ≡ true) where
  abbrev said : ℕ → KboEntry
  said f = entry_by arity table f

  abbrev entries : List KboEntry
  entries = map said symbols

  said_at : (k : ℕ) (e : KboEntry) → slice_get entries k ≡ Some e → (f : ℕ) × In f symbols × (e ≡ said f)
  said_at k e at = of_map said symbols (in_of_get entries k e at)

  no_fault : (k : ℕ) (fault : KboFault) → HasFaultAt entries k fault → ⊥
  no_fault k (Twice f) h =
      twice entries (subst AreDistinct (sym (names_said said symbol_of (λ f. refl) symbols)) distinct) k h.0 h.1
      (subst (λ (n : ℕ). is_listed n (map symbol_of (take k entries)) ≡ true) h.2.0 h.2.1)
  no_fault k (ConstantTooLight f) h =
      (let (g, i, e) = said_at k h.0 h.1 in
      constant_weighs (arity g) (table g 0) (sym (ap (λ (d : KboEntry). d.arity) e) ∙ h.2.1) (sym (ap (λ (d : KboEntry). d.weight) e) ∙ h.2.2))
  no_fault k (TooBig f) h =
      (let (g, i, e) = said_at k h.0 h.1 in
      let weight : h.0.weight ≡ weight_by arity table g = ap (λ (d : KboEntry). d.weight) e in
      let few = small_weight (arity g) (table g 0) (small g 0) in
      let great = h.2.1 in
      omega (arith, weight, few, great))
  no_fault k (UnaryNotTop f) h = h.2
  no_fault k OutOfMemory h = h.2

  on_top : (f : ℕ) (e : KboEntry) → In f symbols → e ≡ said f → IsOnTop entries e
  on_top f e i is one light k d below apart =
      (let (g, j, other) = of_map said symbols (in_of_get entries k (get_or entries k d) (slice_get-get_or entries k d below)) in
      let one_argument : arity f ≡ 1 = sym (ap (λ (x : KboEntry). x.arity) is) ∙ one in
      let nothing : table f 0 ≡ 0 = weighs_nothing (arity f == 0) (table f 0) (sym (ap (λ (x : KboEntry). x.weight) is) ∙ light) in
      let different : g ≢ f = λ same. apart (ap (λ (x : KboEntry). x.symbol) other ∙ (same ∙ sym (ap (λ (x : KboEntry). x.symbol) is))) in
      let less : table g 1 < table f 1 = ranked (table f 0) (table g 1) (table f 1) nothing (tops f g i j one_argument different) in
      let left : (get_or entries k d).rank ≡ table g 1 = ap (λ (x : KboEntry). x.rank) other in
      let right : e.rank ≡ table f 1 = ap (λ (x : KboEntry). x.rank) is in
      omega (arith, less, left, right))

  no_top_fault : (k : ℕ) (fault : KboFault) → HasTopFaultAt entries k fault → ⊥
  no_top_fault k (Twice f) h = h.2
  no_top_fault k (ConstantTooLight f) h = h.2
  no_top_fault k (TooBig f) h = h.2
  no_top_fault k (UnaryNotTop f) h = (let (g, i, e) = said_at k h.0 h.1 in h.2.1 (on_top g h.0 i e))
  no_top_fault k OutOfMemory h = h.2

  pub all_faultless : IsFaultless entries
  all_faultless = record { none = no_fault; none_on_top = no_top_fault }

-- ---- of what is found

few_by : (b d : Bool) → (if b then (if d then 2 else 3) else 8) < 8 + 1
few_by true true = omega arith
few_by true false = omega arith
few_by false d = omega arith

few_values : (arity : ℕ → ℕ) (s : Slot) → kbo_values arity s < 8 + 1
few_values arity s = few_by (s.part == 0) (arity s.symbol == 0)

pub knuth_made : (system : System) → IsSystem system → length system.arities ≤ 4095 → (numbers : List ℕ) (budget : ℕ) (entries : List KboEntry)
    → FindsKbo system numbers budget entries → AreKboEntries system.arities entries
knuth_made system valid few numbers budget entries h =
    let arity = arity_with_mark system.arities in
    let pairs = map marked_rule h.pairs in
    let sought = search_of kbo_search system h.pairs h.symbols in
    let table : Table = table_of sought.slots h.values in
    let s = solved (puzzle_of sought) h.values h.first.0 in
    let small : (f part : ℕ) → table f part < 8 = λ f part. small_value sought h.values part 8 h.first.0 (omega arith) (λ s e. few_values arity s) f in
    let own = kbo_tops arity h.symbols in
    let distinct = all_distinct system valid few numbers h.pairs h.symbols h.of_problem in
    let tops : (f g : ℕ) → In f h.symbols → In g h.symbols → arity f ≡ 1 → g ≢ f → is_above table f g ≡ true = λ f g i j one other.
    (let (c, at) = get_of_in (in_tops arity h.symbols h.symbols f g one i j other) in
    let below : c < length own = slice_get_within own c (above f g) at in
    let all = own_and_others (kbo_family arity) h.symbols own system.rules pairs in
    sym (truth_own (kbo_family arity) h.symbols own system.rules pairs c h.values (above f g) at) ∙ s.meets c (omega (arith, below, all))) in
    subst (AreKboEntries system.arities) (sym h.are) (record {
      few = few;
      each = each_said (kbo_entry system.arities table) _ h.symbols (λ f i. (
        arity_there system valid few numbers h.pairs h.symbols h.of_problem f i,
        (let weight = small_weight (arity f) (table f 0) (small f 0) in omega (arith, weight)),
        (let rank = small f 1 in omega (arith, rank)),
      ));
      distinct = subst AreDistinct (sym (names_said (kbo_entry system.arities table) symbol_of (λ f. refl) h.symbols)) distinct;
      faultless = all_faultless arity table h.symbols distinct small tops;
    })
