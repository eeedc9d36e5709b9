-- Places that are found, one after another, and what a path leads to through places whose flags are not set.
use Rattle.std.specs.Prelude.{◌≡◌, ◌<◌, ◌≤◌, ◌⊎◌, ℕ, ◌+◌, Bool, true, false, List, [], ◌∷◌, ◌++◌, length, take, drop, get_or, Some, slice_get, slice_set, refl}
use Rattle.std.proofs.Common.{zero, suc, inl, inr, sym, ap, subst, arith, ◌∙◌, append_assoc, length-append}
use Rattle.std.proofs.lemmas.List.{append-nil}
use Rattle.std.proofs.lemmas.Option.{same_Some, slice_get_within}
use native.Mathlib.Decide.{dec_lt}
use Rattle.trs_defs.specs.Member.{In, in_first}
use Rattle.trs_defs.specs.Run.{Run, Stay, Go}
use Rattle.trs_defs.proofs.Runs.{one, then}
use Rattle.trs_defs.proofs.Members.{in_or, no_in, in_left, in_right, in_either, get_of_in, in_of_get}
use Rattle.dp_core.specs.Flags.{unset}
use Rattle.dp_core.proofs.Collecting.{next_read}
use Rattle.dp_core.proofs.Flags.{unset_set, set_kept}
use Rattle.dp_graph.specs.Rows.{Follows}
use Rattle.dp_graph.specs.FoundPlaces.{AreFound, Finds, FollowsFree, AreCollected}
use Rattle.dp_graph.proofs.ItemLists.{one_taken}
use Rattle.dp_graph.proofs.ListPlaces.{not_both, unset_there, length_set, set_here, set_cases, get_left, in_single}

none_found : (flags : List Bool) → AreFound flags flags []
none_found flags = record {
  once = omega arith;
  places = refl;
  marked = λ k e. inl e;
  kept = λ k e. e;
  found_marked = λ k i. absurd (no_in i);
  fresh = λ k i. absurd (no_in i);
}

one_found : (flags : List Bool) (k : ℕ) → slice_get flags k ≡ Some false → AreFound flags (slice_set flags k true) (k ∷ [])
one_found flags k e = record {
  once = let h = unset_set flags k e in omega (arith, h);
  places = length_set flags k true;
  marked = λ j h. elim (set_cases flags k j true true h) [ inl s ↦ inr (subst (λ z. In z (k ∷ [])) (sym s.0) in_first) | inr s ↦ inl s.1 ];
  kept = λ j h. set_kept flags k j h;
  found_marked = λ j i. subst (λ z. slice_get (slice_set flags k true) z ≡ Some true) (sym (in_single i)) (set_here flags k true (slice_get_within flags k false e));
  fresh = λ j i. subst (λ z. slice_get flags z ≡ Some false) (sym (in_single i)) e;
}

pub found_more : (a b c : List Bool) (xs ys : List ℕ) → AreFound a b xs → AreFound b c ys → AreFound a c (xs ++ ys)
found_more a b c xs ys first second = record {
  once = let h = first.once in let k = second.once in let l = length-append xs ys in omega (arith, h, k, l);
  places = second.places ∙ first.places;
  marked = λ k e. elim (second.marked k e) [
    | inl h ↦ elim (first.marked k h) [ inl g ↦ inl g | inr i ↦ inr (in_left ys i) ]
    | inr i ↦ inr (in_right xs i)
  ];
  kept = λ k e. second.kept k (first.kept k e);
  found_marked = λ k i. elim (in_either xs ys i) [ inl h ↦ second.kept k (first.found_marked k h) | inr h ↦ second.found_marked k h ];
  fresh = λ k i. elim (in_either xs ys i) [
    | inl h ↦ first.fresh k h
    | inr h ↦ (let free = second.fresh k h in
        unset_there a k (let w = slice_get_within b k false free in let p = first.places in omega (arith, w, p)) (λ set. not_both b k (first.kept k set) free))
  ];
}

-- ---- finding

pub finds_none : (wanted : ℕ → Type 0) (flags : List Bool) (found : List ℕ) → ((j : ℕ) → wanted j → j < length flags → slice_get flags j ≡ Some true) → Finds wanted flags flags found found
finds_none wanted flags found h = record {
  more = [];
  grown = sym (append-nil found);
  are = none_found flags;
  only = λ j i. absurd (no_in i);
  all = h;
}

pub finds_one : (flags : List Bool) (found : List ℕ) (k : ℕ) → slice_get flags k ≡ Some false → Finds (λ j. j ≡ k) flags (slice_set flags k true) found (found ++ k ∷ [])
finds_one flags found k e = record {
  more = k ∷ [];
  grown = refl;
  are = one_found flags k e;
  only = λ j i. in_single i;
  all = λ j same lt. subst (λ z. slice_get (slice_set flags k true) z ≡ Some true) (sym same) (set_here flags k true (slice_get_within flags k false e));
}

pub finds_more : (V W : ℕ → Type 0) (a b c : List Bool) (xs ys zs : List ℕ) → Finds V a b xs ys → Finds W b c ys zs → Finds (λ j. V j ⊎ W j) a c xs zs
finds_more V W a b c xs ys zs first second = record {
  more = first.more ++ second.more;
  grown = second.grown ∙ (ap (λ z. z ++ second.more) first.grown ∙ append_assoc xs first.more second.more);
  are = found_more a b c first.more second.more first.are second.are;
  only = λ j i. elim (in_either first.more second.more i) [ inl h ↦ inl (first.only j h) | inr h ↦ inr (second.only j h) ];
  all = λ j wanted lt. elim wanted [
    | inl h ↦ second.are.kept j (first.all j h lt)
    | inr h ↦ second.all j h (let p = first.are.places in omega (arith, lt, p))
  ];
}

pub finds_same : (V W : ℕ → Type 0) (a b : List Bool) (xs ys : List ℕ) → ((j : ℕ) → V j → W j) → ((j : ℕ) → W j → V j) → Finds V a b xs ys → Finds W a b xs ys
finds_same V W a b xs ys to from finds = record {
  more = finds.more;
  grown = finds.grown;
  are = finds.are;
  only = λ j i. to j (finds.only j i);
  all = λ j wanted. finds.all j (from j wanted);
}

-- the places of a row up to one more
pub taken_more : (row : List ℕ) (i x j : ℕ) → i < length row → x ≡ get_or row i 0 → In j (take (i + 1) row) → In j (take i row) ⊎ (j ≡ x)
taken_more row i x j lt is h =
    elim (in_either (take i row) (x ∷ []) (subst (In j) (one_taken row i x 0 lt is) h)) [ inl k ↦ inl k | inr k ↦ inr (in_single k) ]

pub more_taken : (row : List ℕ) (i x j : ℕ) → i < length row → x ≡ get_or row i 0 → In j (take i row) ⊎ (j ≡ x) → In j (take (i + 1) row)
more_taken row i x j lt is (inl h) = subst (In j) (sym (one_taken row i x 0 lt is)) (in_left (x ∷ []) h)
more_taken row i x j lt is (inr e) = subst (In j) (sym (one_taken row i x 0 lt is)) (in_right (take i row) (subst (λ z. In z (x ∷ [])) (sym e) in_first))

-- ---- the walk

module _ (rows : List (List ℕ)) (before : List Bool) (start : ℕ) where
  -- what the first i places that are found lead to is found too, where its flag was not set
  pub record IsCollecting (flags : List Bool) (found : List ℕ) (i : ℕ) : Type 0 where
    pub are : AreFound before flags found
    pub begun : In start found
    pub low : i ≤ length found
    pub closed : (m k j : ℕ) → m < i → slice_get found m ≡ Some k → Follows rows k j → j < length before → slice_get flags j ≡ Some true
    pub only : (k : ℕ) → In k found → Run (FollowsFree rows before) start k

  pub begins : (flags : List Bool) (found : List ℕ) → slice_get before start ≡ Some false → Finds (λ j. j ≡ start) before flags [] found → IsCollecting flags found 0
  begins flags found free finds = record {
    are = subst (AreFound before flags) (sym finds.grown) finds.are;
    begun = elim (finds.are.marked start (finds.all start refl (slice_get_within before start false free))) [
      | inl set ↦ absurd (not_both before start set free)
      | inr i ↦ subst (In start) (sym finds.grown) i
    ];
    low = omega arith;
    closed = λ m k j lt. absurd (omega (arith, lt));
    only = λ k i. subst (Run (FollowsFree rows before) start) (sym (finds.only k (subst (In k) finds.grown i))) Stay;
  }

  pub goes_on : (flags new : List Bool) (found after : List ℕ) (i x : ℕ) → slice_get found i ≡ Some x → IsCollecting flags found i → Finds (λ j. Follows rows x j) flags new found after
      → IsCollecting new after (i + 1)
  goes_on flags new found after i x at is finds = record {
    are = subst (AreFound before new) (sym finds.grown) (found_more before flags new found finds.more is.are finds.are);
    begun = subst (In start) (sym finds.grown) (in_left finds.more is.begun);
    low = let lt = slice_get_within found i x at in let l = ap length finds.grown in let k = length-append found finds.more in omega (arith, lt, l, k);
    closed = λ m k j lt e follows small.
        let old : slice_get found m ≡ Some k = get_left found finds.more m k (let h = slice_get_within found i x at in omega (arith, lt, h)) (subst (λ z. slice_get z m ≡ Some k) finds.grown e) in
        elim (dec_lt m i) [
          | yes s ↦ finds.are.kept j (is.closed m k j s old follows small)
          | no s ↦
              let same : m ≡ i = omega (arith, s, lt) in
              let k_is : k ≡ x = same_Some k x (sym (subst (λ n. slice_get found n ≡ Some k) same old) ∙ at) in
              finds.all j (subst (λ z. Follows rows z j) k_is follows) (let p = is.are.places in omega (arith, small, p))
        ];
    only = λ k i_in. elim (in_either found finds.more (subst (In k) finds.grown i_in)) [
      | inl h ↦ is.only k h
      | inr h ↦
          let free = finds.are.fresh k h in
          let was_free : slice_get before k ≡ Some false =
          unset_there before k (let w = slice_get_within flags k false free in let p = is.are.places in omega (arith, w, p)) (λ set. not_both flags k (is.are.kept k set) free) in
          then (is.only x (in_of_get found i x at)) (one (finds.only k h, was_free))
    ];
  }

  reaches : (flags : List Bool) (found : List ℕ) → IsCollecting flags found (length found) → {i j : ℕ} → Run (FollowsFree rows before) i j → In i found → In j found
  reaches flags found is Stay i_in = i_in
  reaches flags found is (Go {m = m} step run) i_in =
      let at = get_of_in i_in in
      let set = is.closed at.0 _ m (slice_get_within found at.0 _ at.1) at.1 step.0 (slice_get_within before m false step.1) in
      reaches flags found is run (elim (is.are.marked m set) [ inl was ↦ absurd (not_both before m was step.1) | inr h ↦ h ])

  pub ends : (flags : List Bool) (found : List ℕ) (i : ℕ) → length found ≤ i → IsCollecting flags found i → AreCollected rows before flags start found
  ends flags found i ge is =
      let low = is.low in
      let same : i ≡ length found = omega (arith, ge, low) in
      let all : IsCollecting flags found (length found) = subst (IsCollecting flags found) same is in record {
        are = is.are;
        exact = λ k. (is.only k, λ run. reaches flags found all run is.begun);
      }

  pub found_place : (flags : List Bool) (found : List ℕ) (i k : ℕ) → IsCollecting flags found i → In k found → k < length before
  found_place flags found i k is h = slice_get_within before k false (is.are.fresh k h)

  pub some_left : (flags : List Bool) (found : List ℕ) (i : ℕ) → i < length found → IsCollecting flags found i → i < unset before
  some_left flags found i lt is = let h = is.are.once in omega (arith, lt, h)

pub in_row : (row : List ℕ) (i x : ℕ) → i < length row → x ≡ get_or row i 0 → In x row
in_row [] i x lt is = absurd (omega (arith, lt))
in_row (y ∷ row) zero x lt is = subst (λ z. In z (y ∷ row)) (sym is) in_first
in_row (y ∷ row) (suc i) x lt is = in_right (y ∷ []) (in_row row i x (omega (arith, lt)) is)

pub past_row : (row : List ℕ) (i v : ℕ) → i < length row → (get_or row i 0 ≡ v → ⊥) → In v (drop i row) → In v (drop (i + 1) row)
past_row row i v lt differ h = elim (in_or (subst (In v) (next_read row i (get_or row i 0) 0 lt refl) h)) [ inl e ↦ absurd (differ (sym e)) | inr k ↦ k ]
