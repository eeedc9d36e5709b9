-- The item of a leader.
use Rattle.std.specs.Prelude.{◌≡◌, ◌<◌, ◌≤◌, ℕ, ◌+◌, ◌==◌, Bool, true, false, List, [], ◌∷◌, ◌++◌, take, get_or, length, Option, Some, None, slice_get, refl}
use Rattle.std.proofs.Common.{zero, suc, inl, inr, sym, ap, subst, arith, ◌∙◌, add-one}
use Rattle.std.proofs.lemmas.Option.{slice_get-get_or, same_Some, slice_get_within}
use Rattle.std.proofs.lemmas.List.{take_all, append-nil}
use Rattle.std.proofs.lemmas.Bool.{eqb-true, eq-eqb}
use native.Mathlib.Decide.{dec_lt, ℕ_discrete}
use Rattle.trs_defs.specs.Member.{In, in_first, in_rest}
use Rattle.trs_defs.proofs.Members.{no_in}
use Rattle.trs_defs.proofs.ListItems.{item_there, last_item}
use Rattle.pair_theory.specs.DependencyPair.{keep_if}
use Rattle.dp_graph.specs.declared.items.GraphItem.{GraphItem}
use Rattle.dp_graph.specs.GroupOrSingle.{GroupOrSingle, group, single, item_of, items_of}
use Rattle.dp_graph.specs.PutOut.{led_by, IsItemOf, AddsItem, AreItemsOf, no_leaders, a_pair, a_rule}
use Rattle.dp_graph.specs.PlaceLists.{AreEmpty, PutsBehind, places_below, before_others, numbers_of, AreLed}
use Rattle.dp_graph.proofs.ItemLists.{one_taken}
use Rattle.dp_graph.proofs.ListPlaces.{past_none, in_single, length_more, still_there}
use Rattle.dp_graph.proofs.ComponentLaws.{Ascends, number, ascends_by, in_led_by, led_by_in, led_ascends}

keep_before : {A : Type 0} (b : Bool) (x : A) (xs ys : List A) → keep_if b x xs ++ ys ≡ keep_if b x (xs ++ ys)
keep_before true x xs ys = refl
keep_before false x xs ys = refl

-- ---- the places of each leader

led_more : (v : ℕ) (numbers leaders : List ℕ) (n l : ℕ) → length numbers ≡ length leaders → led_by v (numbers ++ n ∷ []) (leaders ++ l ∷ []) ≡ led_by v numbers leaders ++ keep_if (l == v) n []
led_more v [] [] n l e = refl
led_more v [] (k ∷ leaders) n l e = absurd (omega (arith, e))
led_more v (m ∷ numbers) [] n l e = absurd (omega (arith, e))
led_more v (m ∷ numbers) (k ∷ leaders) n l e =
    ap (keep_if (k == v) m) (led_more v numbers leaders n l (omega (arith, e))) ∙ sym (keep_before (k == v) m (led_by v numbers leaders) (keep_if (l == v) n []))

places_length : (n : ℕ) → length (places_below n) ≡ n
places_length zero = refl
places_length (suc n) = let h = places_length n in let l = length_more (places_below n) n in omega (arith, h, l)

taken_length : (xs : List ℕ) (w : ℕ) → w ≤ length xs → length (take w xs) ≡ w
taken_length xs zero h = refl
taken_length [] (suc w) h = absurd (omega (arith, h))
taken_length (x ∷ xs) (suc w) h = ap suc (taken_length xs w (omega (arith, h)))

pub place_there : (n w : ℕ) → w < n → slice_get (places_below n) w ≡ Some w
place_there zero w h = absurd (omega (arith, h))
place_there (suc n) w h = elim (dec_lt w n) [
  | yes s ↦ still_there (places_below n) (n ∷ []) w w (place_there n w s)
  | no s ↦
      let same : w ≡ n = omega (arith, s, h) in
      let at : slice_get (places_below n ++ n ∷ []) n ≡ Some n = subst (λ z. slice_get (places_below n ++ n ∷ []) z ≡ Some n) (places_length n) (last_item (places_below n) n []) in
      subst (λ z. slice_get (places_below n ++ n ∷ []) z ≡ Some z) (sym same) at
]

-- the places before w of each leader
pub record LedBefore (leaders : List ℕ) (led : List (List ℕ)) (w : ℕ) : Type 0 where
  pub count : length led ≡ length leaders
  pub each : (v : ℕ) (places : List ℕ) → slice_get led v ≡ Some places → places ≡ led_by v (places_below w) (take w leaders)

pub none_led_before : (leaders : List ℕ) (led : List (List ℕ)) (n : ℕ) → n ≡ length leaders → AreEmpty n led → LedBefore leaders led 0
none_led_before leaders led n size none = record { count = none.count ∙ size; each = λ v places e. none.none v places e }

pub one_more_led : (leaders : List ℕ) (led new : List (List ℕ)) (w l : ℕ) → w < length leaders → l ≡ get_or leaders w 0 → l < length led → PutsBehind led new l w → LedBefore leaders led w
    → LedBefore leaders new (w + 1)
one_more_led leaders led new w l lt is small puts before = record {
  count = puts.count ∙ before.count;
  each = λ v places e. rw add-one (go v places e (ℕ_discrete v l));
}
  where
    whole : (v : ℕ) → led_by v (places_below (suc w)) (take (suc w) leaders) ≡ led_by v (places_below w) (take w leaders) ++ keep_if (l == v) w []
    whole v =
        let taken : take (suc w) leaders ≡ take w leaders ++ l ∷ [] = rw (← add-one) (one_taken leaders w l 0 lt is) in
        let a = places_length w in
        let b = taken_length leaders w (omega (arith, lt)) in
        ap (λ z. led_by v (places_below w ++ w ∷ []) z) taken ∙ led_more v (places_below w) (take w leaders) w l (omega (arith, a, b))

    go : (v : ℕ) (places : List ℕ) → slice_get new v ≡ Some places → Dec (v ≡ l) → places ≡ led_by v (places_below (suc w)) (take (suc w) leaders)
    go v places e (yes same) =
        let r = item_there led l small in
        let here : places ≡ r.0 ++ w ∷ [] = same_Some places (r.0 ++ w ∷ []) (sym (subst (λ z. slice_get new z ≡ Some places) same e) ∙ puts.here r.0 r.1) in
        let old : r.0 ≡ led_by v (places_below w) (take w leaders) = before.each v r.0 (subst (λ z. slice_get led z ≡ Some r.0) (sym same) r.1) in
        here ∙ (ap (λ z. z ++ w ∷ []) old ∙ (ap (λ b. led_by v (places_below w) (take w leaders) ++ keep_if b w []) (sym (eq-eqb l v (sym same))) ∙ sym (whole v)))
    go v places e (no other) =
        let old : places ≡ led_by v (places_below w) (take w leaders) = before.each v places (sym (puts.others v other) ∙ e) in
        old ∙ (kept (l == v) refl ∙ sym (whole v))
      where
        kept : (b : Bool) → (l == v) ≡ b → led_by v (places_below w) (take w leaders) ≡ led_by v (places_below w) (take w leaders) ++ keep_if b w []
        kept true same = absurd (other (sym (eqb-true l v same)))
        kept false same = sym (append-nil (led_by v (places_below w) (take w leaders)))

pub all_led_lists : (leaders : List ℕ) (led : List (List ℕ)) (w : ℕ) → length leaders ≤ w → w ≤ length leaders → LedBefore leaders led w → AreLed leaders led
all_led_lists leaders led w ge le before =
    let same : w ≡ length leaders = omega (arith, ge, le) in record {
      count = before.count;
      each = λ v places e. before.each v places e ∙ (ap (λ z. led_by v (places_below z) (take w leaders)) same ∙ ap (led_by v (places_below (length leaders))) (take_all w leaders ge));
    }

-- what is known of the list of a leader
pub led_place : (leaders : List ℕ) (led : List (List ℕ)) → AreLed leaders led → (v : ℕ) (places : List ℕ) → slice_get led v ≡ Some places → (w : ℕ) → In w places → slice_get leaders w ≡ Some v
led_place leaders led are v places at w i =
    let (k, e, d) = in_led_by v (places_below (length leaders)) leaders w (subst (In w) (are.each v places at) i) in
    let lt = slice_get_within leaders k v d in
    let same : k ≡ w = same_Some k w (sym (place_there (length leaders) k lt) ∙ e) in
    subst (λ z. slice_get leaders z ≡ Some v) same d

pub place_led : (leaders : List ℕ) (led : List (List ℕ)) → AreLed leaders led → (v : ℕ) (places : List ℕ) → slice_get led v ≡ Some places → (w : ℕ) → slice_get leaders w ≡ Some v → In w places
place_led leaders led are v places at w e =
    subst (In w) (sym (are.each v places at)) (led_by_in v (places_below (length leaders)) leaders w w (place_there (length leaders) w (slice_get_within leaders w v e)) e)

-- ---- the numbers of the places of a leader

numbers_led : (v : ℕ) (all numbers leaders places : List ℕ) (k : ℕ) → ((i w : ℕ) → slice_get places i ≡ Some w → w ≡ k + i) → ((i : ℕ) → slice_get numbers i ≡ slice_get all (k + i))
    → length numbers ≤ length leaders → length places ≡ length leaders → numbers_of all (led_by v places leaders) ≡ led_by v numbers leaders
numbers_led v all [] [] [] k places_are are few size = refl
numbers_led v all [] [] (w ∷ places) k places_are are few size = absurd (omega (arith, size))
numbers_led v all (n ∷ numbers) [] places k places_are are few size = absurd (omega (arith, few))
numbers_led v all numbers (l ∷ leaders) [] k places_are are few size = absurd (omega (arith, size))
numbers_led v all [] (l ∷ leaders) (w ∷ places) k places_are are few size =
    let here : w ≡ k = (let h = places_are zero w refl in omega (arith, h)) in
    let none : slice_get all w ≡ None = ap (slice_get all) (let same : w ≡ k + 0 = omega (arith, here) in same) ∙ sym (are zero) in
    go (l == v) none
    (numbers_led v all [] leaders places (suc k) (λ i u e. let h = places_are (suc i) u e in omega (arith, h))
    (λ i. are (suc i) ∙ ap (slice_get all) (let same : k + suc i ≡ suc k + i = omega arith in same)) (omega arith) (omega (arith, size)))
  where
    go : (b : Bool) → slice_get all w ≡ None → numbers_of all (led_by v places leaders) ≡ [] → numbers_of all (keep_if b w (led_by v places leaders)) ≡ []
    go true none rest = ap (λ z. before_others z (numbers_of all (led_by v places leaders))) none ∙ rest
    go false none rest = rest
numbers_led v all (n ∷ numbers) (l ∷ leaders) (w ∷ places) k places_are are few size =
    let here : w ≡ k = (let h = places_are zero w refl in omega (arith, h)) in
    let some : slice_get all w ≡ Some n = ap (slice_get all) (let same : w ≡ k + 0 = omega (arith, here) in same) ∙ sym (are zero) in
    go (l == v) some
    (numbers_led v all numbers leaders places (suc k) (λ i u e. let h = places_are (suc i) u e in omega (arith, h))
    (λ i. are (suc i) ∙ ap (slice_get all) (let same : k + suc i ≡ suc k + i = omega arith in same)) (omega (arith, few)) (omega (arith, size)))
  where
    go : (b : Bool) → slice_get all w ≡ Some n → numbers_of all (led_by v places leaders) ≡ led_by v numbers leaders
        → numbers_of all (keep_if b w (led_by v places leaders)) ≡ keep_if b n (led_by v numbers leaders)
    go true some rest = ap (λ z. before_others z (numbers_of all (led_by v places leaders))) some ∙ ap (λ z. n ∷ z) rest
    go false some rest = rest

place_is : (n i w : ℕ) → slice_get (places_below n) i ≡ Some w → w ≡ i
place_is n i w e =
    let h = slice_get_within (places_below n) i w e in
    let c = places_length n in
    same_Some w i (sym e ∙ place_there n i (omega (arith, h, c)))

places_ascend : (n : ℕ) → Ascends (places_below n)
places_ascend n = ascends_by (places_below n) (λ i j a b lt e d. let h = place_is n i a e in let k = place_is n j b d in omega (arith, lt, h, k))

numbers_more : (numbers xs : List ℕ) (x : ℕ) → numbers_of numbers (xs ++ x ∷ []) ≡ numbers_of numbers xs ++ before_others (slice_get numbers x) []
numbers_more numbers [] x = refl
numbers_more numbers (y ∷ xs) x = ap (before_others (slice_get numbers y)) (numbers_more numbers xs x) ∙ go (slice_get numbers y)
  where
    go : (o : Option ℕ) → before_others o (numbers_of numbers xs ++ before_others (slice_get numbers x) []) ≡ before_others o (numbers_of numbers xs) ++ before_others (slice_get numbers x) []
    go None = refl
    go (Some n) = refl

pub one_more_number : (numbers places old new : List ℕ) (i x : ℕ) → i < length places → x ≡ get_or places i 0 → old ≡ numbers_of numbers (take i places) → new ≡ old ++ before_others (slice_get numbers x) []
    → new ≡ numbers_of numbers (take (i + 1) places)
one_more_number numbers places old new i x lt is before grown =
    grown ∙ (ap (λ z. z ++ before_others (slice_get numbers x) []) before
    ∙ (sym (numbers_more numbers (take i places) x) ∙ ap (numbers_of numbers) (sym (one_taken places i x 0 lt is))))

pub number_added : (numbers old new : List ℕ) (x : ℕ) → x < length numbers → new ≡ old ++ get_or numbers x 0 ∷ [] → new ≡ old ++ before_others (slice_get numbers x) []
number_added numbers old new x small grown = grown ∙ ap (λ z. old ++ before_others z []) (sym (slice_get-get_or numbers x 0 small))

pub no_number_added : (numbers old : List ℕ) (x : ℕ) → length numbers ≤ x → old ≡ old ++ before_others (slice_get numbers x) []
no_number_added numbers old x ge = sym (append-nil old) ∙ ap (λ z. old ++ before_others z []) (sym (past_none numbers x ge))

pub all_numbers : (numbers places members : List ℕ) (i : ℕ) → length places ≤ i → members ≡ numbers_of numbers (take i places) → members ≡ numbers_of numbers places
all_numbers numbers places members i ge e = e ∙ ap (numbers_of numbers) (take_all i places ge)

-- ---- the item of a leader

single_of : (xs : List ℕ) → length xs ≡ 1 → (x : ℕ) × (xs ≡ x ∷ [])
single_of [] e = absurd (omega (arith, e))
single_of (x ∷ []) e = (x, refl)
single_of (x ∷ y ∷ xs) e = absurd (omega (arith, e))

module _ (numbers leaders : List ℕ) (size : length numbers ≤ length leaders) (v : ℕ) (own : slice_get leaders v ≡ Some v) (led : List ℕ) (are : led ≡ led_by v (places_below (length leaders)) leaders) where
  in_led : (w : ℕ) → slice_get leaders w ≡ Some v → In w led
  in_led w e = subst (In w) (sym are) (led_by_in v (places_below (length leaders)) leaders w w (place_there (length leaders) w (slice_get_within leaders w v e)) e)

  has_leader : (w : ℕ) → In w led → slice_get leaders w ≡ Some v
  has_leader w i =
      let (k, e, d) = in_led_by v (places_below (length leaders)) leaders w (subst (In w) are i) in
      subst (λ z. slice_get leaders z ≡ Some v) (sym (place_is (length leaders) k w e)) d

  -- it leads no other place
  pub single_item : (n : ℕ) → length led ≡ 1 → slice_get numbers v ≡ Some n → IsItemOf numbers leaders v (single n)
  single_item n one at = (
    at,
    λ w e.
        let (x, all) = single_of led one in
        in_single (subst (In w) all (in_led w e)) ∙ sym (in_single (subst (In v) all (in_led v own))),
  )

  pub group_item : (members : List ℕ) → members ≡ numbers_of numbers led → (length led ≡ 1 → ⊥) → IsItemOf numbers leaders v (group members)
  group_item members is more = (
    is ∙ (ap (numbers_of numbers) are
        ∙ numbers_led v numbers numbers leaders (places_below (length leaders)) 0 (λ i w e. let h = place_is (length leaders) i w e in omega (arith, h)) (λ i. ap (slice_get numbers) (let same : i ≡ 0 + i = omega arith in same)) size (places_length (length leaders))),
    other led refl more (subst Ascends (sym are) (led_ascends v (places_below (length leaders)) leaders (places_ascend (length leaders)))),
  )
    where
      other : (ms : List ℕ) → ms ≡ led → (length ms ≡ 1 → ⊥) → Ascends ms → (w : ℕ) × (slice_get leaders w ≡ Some v) × (w ≡ v → ⊥)
      other [] e not up = absurd (no_in (subst (In v) (sym e) (in_led v own)))
      other (a ∷ []) e not up = absurd (not refl)
      other (a ∷ b ∷ ms) e not (number below up) = elim (ℕ_discrete a v) [
        | yes same ↦ (b, has_leader b (subst (In b) e (in_rest in_first)), λ also. let lt = below b in_first in omega (arith, lt, same, also))
        | no differ ↦ (a, has_leader a (subst (In a) e in_first), differ)
      ]

-- ---- the items of leaders

pub no_items_yet : (numbers leaders order : List ℕ) (items : List GraphItem) → items ≡ [] → AreItemsOf numbers leaders (take 0 order) (items_of items)
no_items_yet numbers leaders order items none = subst (λ z. AreItemsOf numbers leaders [] (items_of z)) (sym none) no_leaders

items_more : (items : List GraphItem) (item : GraphItem) → items_of (items ++ item ∷ []) ≡ items_of items ++ item_of item ∷ []
items_more [] item = refl
items_more (x ∷ items) item = ap (λ z. item_of x ∷ z) (items_more items item)

module _ (numbers leaders : List ℕ) where
  pair_behind : (vs : List ℕ) (items : List GroupOrSingle) (v : ℕ) (item : GroupOrSingle) → v < length numbers → IsItemOf numbers leaders v item → AreItemsOf numbers leaders vs items
      → AreItemsOf numbers leaders (vs ++ v ∷ []) (items ++ item ∷ [])
  pair_behind _ _ v item lt is no_leaders = a_pair v lt is no_leaders
  pair_behind _ _ v item lt is (a_pair {vs = vs} {items = items} u small of rest) = a_pair u small of (pair_behind vs items v item lt is rest)
  pair_behind _ items v item lt is (a_rule {vs = vs} u large rest) = a_rule u large (pair_behind vs items v item lt is rest)

  rule_behind : (vs : List ℕ) (items : List GroupOrSingle) (v : ℕ) → length numbers ≤ v → AreItemsOf numbers leaders vs items → AreItemsOf numbers leaders (vs ++ v ∷ []) items
  rule_behind _ _ v ge no_leaders = a_rule v ge no_leaders
  rule_behind _ _ v ge (a_pair {vs = vs} {items = items} u small of rest) = a_pair u small of (rule_behind vs items v ge rest)
  rule_behind _ items v ge (a_rule {vs = vs} u large rest) = a_rule u large (rule_behind vs items v ge rest)

  pub one_more_item : (order : List ℕ) (items new : List GraphItem) (i v : ℕ) → i < length order → v ≡ get_or order i 0 → AddsItem numbers leaders v items new
      → AreItemsOf numbers leaders (take i order) (items_of items) → AreItemsOf numbers leaders (take (i + 1) order) (items_of new)
  one_more_item order items new i v lt at adds before = subst (λ z. AreItemsOf numbers leaders z (items_of new)) (sym (one_taken order i v 0 lt at)) (elim adds [
    | inl (small, (item, is, grown)) ↦
        subst (AreItemsOf numbers leaders (take i order ++ v ∷ [])) (sym (ap items_of grown ∙ items_more items item)) (pair_behind (take i order) (items_of items) v (item_of item) small is before)
    | inr (ge, same) ↦ subst (λ z. AreItemsOf numbers leaders (take i order ++ v ∷ []) (items_of z)) (sym same) (rule_behind (take i order) (items_of items) v ge before)
  ])

  pub all_items : (order : List ℕ) (items : List GraphItem) (i : ℕ) → length order ≤ i → AreItemsOf numbers leaders (take i order) (items_of items) → AreItemsOf numbers leaders order (items_of items)
  all_items order items i ge before = subst (λ z. AreItemsOf numbers leaders z (items_of items)) (take_all i order ge) before
