-- Filters by their numbers.
use Rattle.std.specs.Prelude.{◌≡◌, ◌<◌, ◌≤◌, ◌⊎◌, ℕ, ◌+◌, ◌-◌, ◌*◌, Bool, true, false, ◌&&◌, if◌then◌else◌, nat_lt, nat_le, List, [], ◌∷◌, ◌++◌, length, map, take, get_or, slice_get, Some, None, unwrap_or}
use Rattle.std.proofs.Common.{zero, suc, inl, inr, refl, sym, ap, ap₂, arith, ◌∙◌, append_assoc, Vec, Global}
use Rattle.std.proofs.lemmas.List.{append-nil, map-append, take_more}
use Rattle.std.proofs.lemmas.Bool.Decides.{nat_tests}
use Rattle.order_theory.specs.ArgumentFilter.{ArgumentFilter, To, Keep}
use Rattle.path_lpo.specs.declared.entries.Filter.{Filter}
use Rattle.path_lpo.specs.Plain.{plain_filter}
use Rattle.order_theory.specs.Keeping.{places_from}
use Rattle.lpo_find.specs.LpoSpace.{filter_count, filter_number, all_but}
use Rattle.lpo_find.specs.Filters.{plain_filters, filters_of}

-- the filters up to number i are made
abbrev pub FiltersSoFar : (arity i : ℕ) → List Filter → Type 0
FiltersSoFar arity i made = filters_of arity ≡ map plain_filter made ++ map (filter_number arity) (places_from i (filter_count arity - i))

module _ (arity : ℕ) where
  one_behind : (i n : ℕ) → n ≡ suc (filter_count arity - (i + 1)) → map (filter_number arity) (places_from i n) ≡ filter_number arity i ∷ map (filter_number arity) (places_from (i + 1) (filter_count arity - (i + 1)))
  one_behind i n e =
      let next : suc i ≡ i + 1 = omega arith in
      ap (λ (m : ℕ). map (filter_number arity) (places_from i m)) e
      ∙ ap (λ (q : ℕ). filter_number arity i ∷ map (filter_number arity) (places_from q (filter_count arity - (i + 1)))) next

  pub one_filter_more : (i : ℕ) (x : Filter) (old new : List Filter) → i < filter_count arity → plain_filter x ≡ filter_number arity i → new ≡ old ++ x ∷ []
      → FiltersSoFar arity i old → FiltersSoFar arity (i + 1) new
  one_filter_more i x old new below is grown before =
      let behind = map (filter_number arity) (places_from (i + 1) (filter_count arity - (i + 1))) in
      let left : filter_count arity - i ≡ suc (filter_count arity - (i + 1)) = omega (arith, below) in
      let more : map plain_filter old ++ filter_number arity i ∷ [] ≡ map plain_filter new =
      ap (λ (y : ArgumentFilter). map plain_filter old ++ y ∷ []) (sym is) ∙ (sym (map-append plain_filter old (x ∷ [])) ∙ ap (map plain_filter) (sym grown)) in
      before ∙ (ap (λ (l : List ArgumentFilter). map plain_filter old ++ l) (one_behind i (filter_count arity - i) left)
      ∙ (sym (append_assoc (map plain_filter old) (filter_number arity i ∷ []) behind) ∙ ap (λ (l : List ArgumentFilter). l ++ behind) more))

  pub all_filters : (i : ℕ) (made : List Filter) → filter_count arity ≤ i → FiltersSoFar arity i made → map plain_filter made ≡ filters_of arity
  all_filters i made past before =
      let none : filter_count arity - i ≡ 0 = omega (arith, past) in
      sym (before ∙ (ap (λ (n : ℕ). map plain_filter made ++ map (filter_number arity) (places_from i n)) none ∙ append-nil (map plain_filter made)))

-- the lists of the first symbols
pub one_list_more : (arity : ℕ → ℕ) (symbols : List ℕ) (i n : ℕ) (x : Vec Filter Global) (old new : List (Vec Filter Global)) → i < length symbols
    → plain_filters x ≡ filters_of n → n ≡ arity (get_or symbols i 0) → new ≡ old ++ x ∷ [] → map plain_filters old ≡ map (λ f. filters_of (arity f)) (take i symbols)
    → map plain_filters new ≡ map (λ f. filters_of (arity f)) (take (i + 1) symbols)
one_list_more arity symbols i n x old new below is same grown before =
    let f = get_or symbols i 0 in
    ap (map plain_filters) grown ∙ (map-append plain_filters old (x ∷ [])
    ∙ (ap₂ (λ (l : List (List ArgumentFilter)) (y : List ArgumentFilter). l ++ y ∷ []) before (is ∙ ap (λ (m : ℕ). filters_of m) same)
    ∙ (sym (map-append (λ g. filters_of (arity g)) (take i symbols) (f ∷ [])) ∙ ap (map (λ g. filters_of (arity g))) (sym (take_more symbols i 0 below)))))

-- ---- the filter of a number

numbered_from : (F : ℕ → ArgumentFilter) (q m v : ℕ) → v < m → slice_get (map F (places_from q m)) v ≡ Some (F (q + v))
numbered_from F q zero v below = absurd (omega (arith, below))
numbered_from F q (suc m) zero below = let at : q ≡ q + 0 = omega arith in ap (λ (k : ℕ). Some (F k)) at
numbered_from F q (suc m) (suc v) below =
    let at : suc q + v ≡ q + suc v = omega arith in numbered_from F (suc q) m v (omega (arith, below)) ∙ ap (λ (k : ℕ). Some (F k)) at

none_from : (F : ℕ → ArgumentFilter) (q m v : ℕ) → m ≤ v → slice_get (map F (places_from q m)) v ≡ None
none_from F q zero v past = refl
none_from F q (suc m) zero past = absurd (omega (arith, past))
none_from F q (suc m) (suc v) past = none_from F (suc q) m v (omega (arith, past))

neither : (a b c : Bool) (x y : ArgumentFilter) → a ≡ false → (b && c) ≡ false → (if a then x else (if b && c then y else Keep [])) ≡ Keep []
neither true b c x y e d = absurd cc
neither false b c x y e d = ap (λ (z : Bool). if z then y else Keep []) d

not_below : (v n : ℕ) → n ≤ v → nat_lt v n ≡ false
not_below v n h = grind (arith, nat_tests)

and_false : (b : Bool) → (b && false) ≡ false
and_false true = refl
and_false false = refl

few_arguments : (n : ℕ) → n < 2 → nat_le 2 n ≡ false
few_arguments n h = grind (arith, nat_tests)

-- behind all numbers nothing is kept
past_all : (n v : ℕ) → filter_count n ≤ v → filter_number n v ≡ Keep []
past_all zero zero past = absurd (omega (arith, past))
past_all zero (suc v) past =
    neither (nat_lt v 0) (nat_lt v (2 * 0)) (nat_le 2 0) (To (v + 1)) (Keep (all_but (v - 0 + 1) (places_from 1 0))) (not_below v 0 (omega arith))
    (ap (λ b. nat_lt v (2 * 0) && b) (few_arguments 0 (omega arith)) ∙ and_false (nat_lt v (2 * 0)))
past_all (suc zero) zero past = absurd (omega (arith, past))
past_all (suc zero) (suc v) past =
    neither (nat_lt v 1) (nat_lt v (2 * 1)) (nat_le 2 1) (To (v + 1)) (Keep (all_but (v - 1 + 1) (places_from 1 1))) (not_below v 1 (omega (arith, past)))
    (ap (λ b. nat_lt v (2 * 1) && b) (few_arguments 1 (omega arith)) ∙ and_false (nat_lt v (2 * 1)))
past_all (suc (suc n)) zero past = absurd (omega (arith, past))
past_all (suc (suc n)) (suc v) past =
    neither (nat_lt v (suc (suc n))) (nat_lt v (2 * suc (suc n))) (nat_le 2 (suc (suc n))) (To (v + 1)) (Keep (all_but (v - suc (suc n) + 1) (places_from 1 (suc (suc n)))))
    (not_below v (suc (suc n)) (omega (arith, past)))
    (ap (λ b. b && nat_le 2 (suc (suc n))) (not_below v (2 * suc (suc n)) (omega (arith, past))))

by_place : (n v : ℕ) → (v < filter_count n) ⊎ (filter_count n ≤ v) → unwrap_or (slice_get (filters_of n) v) (Keep []) ≡ filter_number n v
by_place n v (inl below) =
    let at : 0 + v ≡ v = omega arith in
    ap (λ o. unwrap_or o (Keep [])) (numbered_from (filter_number n) 0 (filter_count n) v below) ∙ ap (λ (k : ℕ). filter_number n k) at
by_place n v (inr past) = ap (λ o. unwrap_or o (Keep [])) (none_from (filter_number n) 0 (filter_count n) v past) ∙ sym (past_all n v past)

below_or_not : (m n : ℕ) → (m < n) ⊎ (n ≤ m)
below_or_not m zero = inr (omega arith)
below_or_not zero (suc n) = inl (omega arith)
below_or_not (suc m) (suc n) = elim (below_or_not m n) [ inl h ↦ inl (omega (arith, h)) | inr h ↦ inr (omega (arith, h)) ]

pub filter_of_number : (n v : ℕ) → unwrap_or (slice_get (filters_of n) v) (Keep []) ≡ filter_number n v
filter_of_number n v = by_place n v (below_or_not v (filter_count n))
