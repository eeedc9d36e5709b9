-- The spans of the symbols, as they are put down, and what their values say.
use Rattle.std.specs.Prelude.{◌≡◌, ◌<◌, ◌≤◌, ℕ, ◌+◌, ◌*◌, Bool, true, false, ◌==◌, nat_lt, if◌then◌else◌, List, [], ◌∷◌, length, get_or, slice_index, All, Option, Some, None, option_map}
use Rattle.std.proofs.Common.{zero, suc, inl, inr, refl, sym, ap, ap₂, subst, arith, ◌∙◌, set}
use Rattle.std.proofs.lemmas.Bool.{cases_lt, or_parts}
use Rattle.std.proofs.lemmas.Bool.Decides.{nat_tests}
use Rattle.std.proofs.lemmas.List.{get_or-set_other, get_or-set_same, length-set}
use Rattle.trs_defs.specs.Member.{In}
use Rattle.trs_defs.proofs.Members.{in_or, no_in}
use Rattle.trs_defs.specs.Variable.{is_listed}
use Rattle.assign_search.proofs.Refuting.{true_or_false}
use Rattle.order_search.proofs.RootSets.{in_at}
use Rattle.order_search.specs.Slots.{Table, table_of}
use Rattle.order_search.specs.OrderSpace.{slots_of, arity_with_mark}
use Rattle.order_search.specs.Distinct.{AreDistinct}
use Rattle.order_search.proofs.Covered.{listed_of}
use Rattle.order_search.proofs.SlotLayout.{start_of, value_from, value_at}
use Rattle.poly_find.specs.declared.spans.Span.{Span}
use Rattle.poly_find.specs.PolySpace.{values_from, coefficient_by}
use Rattle.poly_find.specs.PolyPlaces.{parts_by, values_at, starts}
use Rattle.poly_find.specs.Spans.{span, in_span, span_of, said_by, AreSpans}
use Rattle.poly_find.proofs.Starts.{said_values, next_start}
use Rattle.poly_find.proofs.NoPairing.{in_listed}

-- the place of a member
place_of : (f : ℕ) (xs : List ℕ) → In f xs → (k : ℕ) × (k < length xs) × (get_or xs k 0 ≡ f)
place_of f [] i = absurd (no_in i)
place_of f (x ∷ xs) i = elim (in_or i) [
  | inl same ↦ (0, omega arith, sym same)
  | inr later ↦ (let (k, below, e) = place_of f xs later in (suc k, omega (arith, below), e))
]

pub listed_place : (f : ℕ) (xs : List ℕ) → is_listed f xs ≡ true → (k : ℕ) × (k < length xs) × (get_or xs k 0 ≡ f)
listed_place f xs e = place_of f xs (in_listed f xs e)

-- ---- one span after another

module _ (arities symbols : List ℕ) where
  -- those of the first i symbols are put down
  pub record AreSpansSoFar (i start : ℕ) (spans : List Span) : Type 0 where
    pub size : length spans ≡ 8192
    pub begins : start ≡ starts (parts_by arities) symbols i
    pub small : start ≤ 256 * i
    pub each : (k : ℕ) → k < i
        → span_of spans (get_or symbols k 0) ≡ span (starts (parts_by arities) symbols k) (parts_by arities (get_or symbols k 0))
    pub others : (f : ℕ) → is_listed f symbols ≡ false → span_of spans f ≡ span 0 0

  pub no_spans_yet : (spans : List Span) → length spans ≡ 8192 → ((f : ℕ) → span_of spans f ≡ span 0 0) → AreSpansSoFar 0 0 spans
  no_spans_yet spans size none = record {
    size = size;
    begins = first symbols;
    small = omega arith;
    each = λ k h. absurd (omega (arith, h));
    others = λ f _. none f;
  }
    where
      first : (fs : List ℕ) → 0 ≡ starts (parts_by arities) fs 0
      first [] = refl
      first (f ∷ fs) = refl

  module _ (distinct : AreDistinct symbols) (low : All (λ f. f < 8192) symbols) (i start n f : ℕ) (spans : List Span) (within : i < length symbols) (is : f ≡ get_or symbols i 0)
      (many : n ≡ parts_by arities f) (few : n ≤ 256) (h : AreSpansSoFar i start spans) where
    pub low_symbol : f < length spans
    low_symbol = let low_one = low i 0 within in omega (arith, low_one, is, h.size)

    pub one_span_more : (new : List Span) → new ≡ set spans f (span start n) → AreSpansSoFar (i + 1) (start + n) new
    one_span_more new e = record {
      size = ap length e ∙ (length-set spans f (span start n) ∙ h.size);
      begins = next_start (parts_by arities) symbols i start n within (many ∙ ap (parts_by arities) is) h.begins;
      small = omega (arith, h.small, few);
      each = λ k below. elim (cases_lt k i) [
        | inl less ↦
            ap (λ l. span_of l (get_or symbols k 0)) e
            ∙ (get_or-set_other spans f (get_or symbols k 0) (span start n) (span 0 0) (λ same. distinct k i less within (same ∙ is)) ∙ h.each k less)
        | inr more ↦
            (let here : k ≡ i = omega (arith, below, more) in
            subst (λ (j : ℕ). span_of new (get_or symbols j 0) ≡ span (starts (parts_by arities) symbols j) (parts_by arities (get_or symbols j 0))) (sym here)
            (subst (λ (g : ℕ). span_of new g ≡ span (starts (parts_by arities) symbols i) (parts_by arities g)) is
            (ap (λ l. span_of l f) e ∙ (get_or-set_same spans f (span start n) (span 0 0) low_symbol ∙ ap₂ (λ (a b : ℕ). span a b) h.begins many))))
      ];
      others = λ g missing.
          ap (λ l. span_of l g) e
          ∙ (get_or-set_other spans f g (span start n) (span 0 0)
          (λ same. let there : is_listed g symbols ≡ true = listed_of g symbols (in_at symbols i 0 g within (sym (same ∙ is))) in absurd cc) ∙ h.others g missing);
    }

  pub all_spans : (i start : ℕ) (spans : List Span) → length symbols ≤ i → AreSpansSoFar i start spans → AreSpans arities symbols spans
  all_spans i start spans past h = record { each = λ k below. h.each k (omega (arith, past, below)); others = h.others }

-- ---- what the values of the spans say

if_true : (b : Bool) (x y : ℕ) → b ≡ true → (if b then x else y) ≡ x
if_true true x y e = refl
if_true false x y e = absurd cc

if_false : (b : Bool) (x y : ℕ) → b ≡ false → (if b then x else y) ≡ y
if_false true x y e = absurd cc
if_false false x y e = refl

if_same : (b : Bool) (x : ℕ) → (if b then x else x) ≡ x
if_same true x = refl
if_same false x = refl

read_values : (values : List ℕ) (start n i : ℕ) → (if nat_lt i n then get_or values (start + i) 0 else 0) ≡ slice_index (values_at values start n) i
read_values values start zero i = let none : nat_lt i 0 ≡ false = grind (arith, nat_tests) in if_false (nat_lt i 0) _ 0 none
read_values values start (suc n) zero =
    let some : nat_lt 0 (suc n) ≡ true = grind (arith, nat_tests) in
    let at : start + 0 ≡ start = omega arith in
    if_true (nat_lt 0 (suc n)) _ 0 some ∙ ap (λ (j : ℕ). get_or values j 0) at
read_values values start (suc n) (suc i) =
    let same : nat_lt (suc i) (suc n) ≡ nat_lt i n = grind (arith, nat_tests) in
    let at : start + suc i ≡ suc start + i = omega arith in
    ap₂ (λ (b : Bool) (j : ℕ). if b then get_or values j 0 else 0) same at ∙ read_values values (suc start) n i

all_zero : (table : Table) (f part n i : ℕ) → ((j : ℕ) → j < part + n → table f j ≡ 0) → slice_index (values_from table f part n) i ≡ 0
all_zero table f part zero i none = refl
all_zero table f part (suc n) zero none = none part (omega arith)
all_zero table f part (suc n) (suc i) none = all_zero table f (suc part) n i (λ j h. none j (omega (arith, h)))

behind : (b : Bool) (n : ℕ) (o : Option ℕ) → b ≡ false → o ≡ None → (if b then Some 0 else option_map (λ m. n + m) o) ≡ None
behind true n o e d = absurd cc
behind false n o e d = ap (option_map (λ m. n + m)) d

no_start : (parts : ℕ → ℕ) (symbols : List ℕ) (f : ℕ) → is_listed f symbols ≡ false → start_of parts symbols f ≡ None
no_start parts [] f e = refl
no_start parts (g ∷ symbols) f e =
    behind (g == f) (parts g) (start_of parts symbols f) (or_parts (g == f) (is_listed f symbols) e).0 (no_start parts symbols f (or_parts (g == f) (is_listed f symbols) e).1)

module _ (arities symbols values : List ℕ) (spans : List Span) (distinct : AreDistinct symbols) (are : AreSpans arities symbols spans) where
  abbrev table : Table
  table = table_of (slots_of (parts_by arities) symbols) values

  of_span : (f start n i : ℕ) → span_of spans f ≡ span start n → said_by spans values f i ≡ slice_index (values_at values start n) i
  of_span f start n i e = ap (λ s. in_span values s i) e ∙ read_values values start n i

  of_place : (k i : ℕ) → k < length symbols → said_by spans values (get_or symbols k 0) i ≡ coefficient_by (arity_with_mark arities) table (get_or symbols k 0) i
  of_place k i below =
      of_span (get_or symbols k 0) (starts (parts_by arities) symbols k) (parts_by arities (get_or symbols k 0)) i (are.each k below)
      ∙ ap (λ (l : List ℕ). slice_index l i) (said_values (parts_by arities) symbols values k distinct below)

  no_value : (f : ℕ) → is_listed f symbols ≡ false → (i : ℕ) → coefficient_by (arity_with_mark arities) table f i ≡ 0
  no_value f missing i =
      all_zero table f 0 (parts_by arities f) i
      (λ j below. value_from (parts_by arities) values symbols 0 f j (omega (arith, below)) ∙ ap (value_at values 0 j) (no_start (parts_by arities) symbols f missing))

  -- the spans say what the table of the values says
  pub said_is : (f i : ℕ) → said_by spans values f i ≡ coefficient_by (arity_with_mark arities) table f i
  said_is f i = elim (true_or_false (is_listed f symbols)) [
    | inl there ↦
        (let (k, below, e) = listed_place f symbols there in
        subst (λ (g : ℕ). said_by spans values g i ≡ coefficient_by (arity_with_mark arities) table g i) e (of_place k i below))
    | inr missing ↦ of_span f 0 0 i (are.others f missing) ∙ sym (no_value f missing i)
  ]
