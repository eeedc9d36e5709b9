-- Pairs of a problem are named one after another, and it is kept which are not.
use Rattle.std.specs.Prelude.{◌≡◌, ◌<◌, ◌≤◌, ◌↔◌, ◌==◌, ℕ, ◌+◌, Bool, true, false, not, List, [], ◌∷◌, ◌++◌, take, drop, length, replicate, get_or, Some, None, IfOk, IfNone, IfSome, IsTrue, Result, Ok, Err, Vec, slice_get, slice_set, refl}
use Rattle.std.specs.declared.alloc.Global.{Global}
use Rattle.std.specs.declared.cmp.Ordering.TheVariants.{Equal}
use Rattle.std.specs.List.{Contains, HoldsAt}
use Rattle.std.specs.List.Sorted.{IsStrictlyIncreasing, IsSearchInRange, IsBinarySearchResult}
use Rattle.std.specs.Ordering.{nat_cmp}
use Rattle.std.specs.Result.{result_ok}
use Rattle.std.proofs.Common.{inl, inr, sym, ap, subst, arith, ◌∙◌, append_assoc}
use Rattle.std.proofs.lemmas.List.{append-nil, take_all, drop_all}
use Rattle.std.proofs.lemmas.Bool.Decides.{Decides-eqb}
use Rattle.std.proofs.lemmas.List.Sorted.{searched}
use Rattle.std.proofs.lemmas.Map.Lookups.{exact_unsigned}
use Rattle.std.proofs.lemmas.Option.{same_Some, slice_get_read, slice_get_within, get_or_from_slice_get}
use native.Mathlib.Decide.{dec_lt}
use Rattle.trs_defs.specs.Member.{In, in_first}
use Rattle.trs_defs.proofs.Members.{in_or, no_in, in_left, in_right, in_either, get_of_in, in_of_get}
use Rattle.rewrite_core.specs.declared.checks.refusals.StepRefused.{StepRefused}
use Rattle.rewrite_core.specs.declared.checks.refusals.StepRefused.TheVariants.{Member, Missing}
use Rattle.rewrite_core.specs.declared.checks.refusals.CheckFault.{CheckFault}
use Rattle.rewrite_core.specs.declared.checks.refusals.CheckFault.TheVariants.{Refused, OutOfMemory}
use Rattle.rewrite_core.specs.Check.{Refuses, holds, lacks, never, least, returned, stops, goes_on}
use Rattle.dp_core.proofs.Collecting.{next_read}
use Rattle.dp_graph.specs.declared.items.GraphItem.{GraphItem}
use Rattle.dp_graph.specs.declared.unnamed.Unnamed.{Unnamed}
use Rattle.dp_graph.specs.GroupOrSingle.{item_of, items_of, members_of, all_members}
use Rattle.dp_graph.specs.GraphConditions.{are_new, are_members, none_is_missing}
use Rattle.dp_graph.specs.Unnamed.{IsUnnamedAt, AreUnnamed}
use Rattle.dp_graph.proofs.ItemLists.{one_taken}
use Rattle.dp_graph.proofs.ListPlaces.{set_here, set_elsewhere, not_both, at_repeat, lesser_of, same_place, never_falls, contained_in, in_contained}

-- ---- the pairs that are not named

pub none_is_named : (numbers : List ℕ) (pairs : Unnamed) → IsStrictlyIncreasing pairs.numbers.items → ((n : ℕ) → Contains numbers n → Contains pairs.numbers.items n)
    → ((n : ℕ) → Contains pairs.numbers.items n → Contains numbers n) → pairs.named.items ≡ replicate (length pairs.numbers.items) false → AreUnnamed numbers [] pairs
none_is_named numbers pairs up keeps adds_none unset = record {
  ascending = up;
  exact = λ n. (
    λ (k, (at, flag)). (in_contained numbers n (adds_none n (contained_in pairs.numbers.items n (in_of_get pairs.numbers.items k n at))), λ i. no_in i),
    λ wanted.
        let (k, at) = get_of_in (in_contained pairs.numbers.items n (keeps n (contained_in numbers n wanted.0))) in (
          k,
          (at, subst (λ z. slice_get z k ≡ Some false) (sym unset) (at_repeat (length pairs.numbers.items) k false (slice_get_within pairs.numbers.items k n at))),
        ),
  );
}

module _ (numbers named : List ℕ) (pairs : Unnamed) (are : AreUnnamed numbers named pairs) where
  pub not_there : (n : ℕ) → (In n pairs.numbers.items → ⊥) → In n numbers × (In n named → ⊥) → ⊥
  not_there n none wanted = let (k, (at, flag)) = (are.exact n).1 wanted in none (in_of_get pairs.numbers.items k n at)

  pub named_before : (n k : ℕ) → slice_get pairs.numbers.items k ≡ Some n → (slice_get pairs.named.items k ≡ Some false → ⊥) → In n numbers × (In n named → ⊥) → ⊥
  named_before n k at set wanted =
      let (j, (there, flag)) = (are.exact n).1 wanted in
      set (subst (λ z. slice_get pairs.named.items z ≡ Some false) (same_place pairs.numbers.items are.ascending j k n there at) flag)

  -- one pair less, that is named
  pub one_named : (new : Unnamed) (n k : ℕ) → IsUnnamedAt pairs n k → new.numbers ≡ pairs.numbers → new.named.items ≡ slice_set pairs.named.items k true → AreUnnamed numbers (named ++ n ∷ []) new
  one_named new n k (at, free) same set = record {
    ascending = subst (λ (z : Vec ℕ Global). IsStrictlyIncreasing z.items) (sym same) are.ascending;
    exact = λ m. (
      λ (j, (there, flag)).
          let here : slice_get pairs.numbers.items j ≡ Some m = subst (λ (z : Vec ℕ Global). slice_get z.items j ≡ Some m) same there in
          let other : j ≡ k → ⊥ = (λ e. set_now (subst (λ z. slice_get new.named.items z ≡ Some false) e flag)) in
          let was = (are.exact m).0 (j, (here, sym (set_elsewhere pairs.named.items k j true other) ∙ subst (λ z. slice_get z j ≡ Some false) set flag)) in (
            was.0,
            λ i. elim (in_either named (n ∷ []) i) [
              | inl old ↦ was.1 old
              | inr last ↦ elim (in_or last) [
                | inl e ↦ other (same_place pairs.numbers.items are.ascending j k n (subst (λ z. slice_get pairs.numbers.items j ≡ Some z) e here) at)
                | inr none ↦ no_in none
              ]
            ],
          ),
      λ wanted.
          let (j, (there, flag)) = (are.exact m).1 (wanted.0, λ i. wanted.1 (in_left (n ∷ []) i)) in
          let same_number : j ≡ k → n ≡ m = (λ e. same_Some n m (sym at ∙ subst (λ z. slice_get pairs.numbers.items z ≡ Some m) e there)) in
          let other : j ≡ k → ⊥ = (λ e. wanted.1 (in_right named (subst (λ z. In z (n ∷ [])) (same_number e) in_first))) in (
            j,
            (
              subst (λ (z : Vec ℕ Global). slice_get z.items j ≡ Some m) (sym same) there,
              subst (λ z. slice_get z j ≡ Some false) (sym set) (set_elsewhere pairs.named.items k j true other ∙ flag),
            ),
          ),
    );
  }
    where
      set_now : slice_get new.named.items k ≡ Some false → ⊥
      set_now e =
          not_both (slice_set pairs.named.items k true) k (set_here pairs.named.items k true (slice_get_within pairs.named.items k false free))
          (subst (λ z. slice_get z k ≡ Some false) set e)

  -- the first pair that is not named is the least
  pub first_is_least : (n k : ℕ) → IsUnnamedAt pairs n k → ((j : ℕ) → j < k → slice_get pairs.named.items j ≡ Some false → ⊥) → none_is_missing numbers named (Err (Missing n))
  first_is_least n k (at, free) before =
      least n ((are.exact n).0 (k, (at, free))) (λ m lt wanted.
      let (j, (there, flag)) = (are.exact m).1 wanted in
      elim (dec_lt j k) [
        | yes below ↦ before j below flag
        | no not_below ↦ elim (dec_lt k j) [
          | yes above ↦ (let h = lesser_of pairs.numbers.items are.ascending k j n m above at there in omega (arith, lt, h))
          | no not_above ↦
              let same : k ≡ j = omega (arith, not_below, not_above) in
              let e : n ≡ m = same_Some n m (sym at ∙ subst (λ z. slice_get pairs.numbers.items z ≡ Some m) (sym same) there) in
              omega (arith, lt, e)
        ]
      ])

  pub none_is_left : (i : ℕ) → length pairs.numbers.items ≤ i → ((j : ℕ) → j < i → slice_get pairs.named.items j ≡ Some false → ⊥) → none_is_missing numbers named (Ok tt)
  none_is_left i ge before = never (λ n wanted.
      let (j, (at, flag)) = (are.exact n).1 wanted in
      let within = slice_get_within pairs.numbers.items j n at in
      before j (omega (arith, within, ge)) flag)

-- ---- what is read at places

pub number_read : (xs : List ℕ) (i m n : ℕ) (b : Bool) → slice_get xs i ≡ Some m → b ≡ (m == n) → IsTrue b → slice_get xs i ≡ Some n
number_read xs i m n b at is yes_ = at ∙ ap (λ z. Some z) ((Decides-eqb m n).0 (sym is ∙ yes_))

pub unset_read : (flags : List Bool) (i : ℕ) (b : Bool) → slice_get flags i ≡ Some b → IsTrue (not b) ↔ (slice_get flags i ≡ Some false)
unset_read flags i true at = (λ e. absurd cc, λ h. absurd (not_both flags i at h))
unset_read flags i false at = (λ _. at, λ _. refl)

pub unset_missing : (flags : List Bool) (i : ℕ) → slice_get flags i ≡ None → IsTrue false ↔ (slice_get flags i ≡ Some false)
unset_missing flags i none = (λ e. absurd cc, λ h. let d : None ≡ Some false = sym none ∙ h in absurd cc)

-- ---- the place of a pair

pub place_found : (xs : List ℕ) (n : ℕ) (r : Result ℕ ℕ) → IsSearchInRange r (length xs) → IfOk r (HoldsAt (λ y. nat_cmp y n ≡ Equal) xs) → IfSome (result_ok r) (λ k. slice_get xs k ≡ Some n)
place_found xs n (Ok k) range is = slice_get_read xs (length xs) k n refl range (sym (exact_unsigned (get_or xs k n) n (is n)))
place_found xs n (Err k) range is = tt

pub none_found : (xs : List ℕ) (n : ℕ) (r : Result ℕ ℕ) → IsBinarySearchResult (λ y. nat_cmp y n) xs r → IfNone (result_ok r) (IsStrictlyIncreasing xs → In n xs → ⊥)
none_found xs n (Ok k) is = tt
none_found xs n (Err i) is = λ up listed.
    let (k, at) = get_of_in listed in
    let lt = slice_get_within xs k n at in
    let same = get_or_from_slice_get xs k n 0 at in
    let (within, below, above) = searched xs n (Err i) is (never_falls xs up) in
    elim (dec_lt k i) [ yes before ↦ (let h = below k before in omega (arith, h, same)) | no behind ↦ (let h = above k (omega (arith, behind)) lt in omega (arith, h, same)) ]

-- ---- members

-- the members before number i passed: the whole is answered as the rest is
abbrev pub NamedSoFar : List ℕ → List ℕ → List ℕ → ℕ → Type 0
NamedSoFar numbers named members i =
    (answer : Result (Unit {0}) StepRefused) → are_new numbers (named ++ take i members) (drop i members) answer → are_new numbers named members answer

pub none_named : (numbers named members : List ℕ) → NamedSoFar numbers named members 0
none_named numbers named members answer h = subst (λ z. are_new numbers z members answer) (append-nil named) h

module _ (numbers named members : List ℕ) (i n : ℕ) (lt : i < length members) (is : n ≡ get_or members i 0) where
  member_next : drop i members ≡ n ∷ drop (i + 1) members
  member_next = next_read members i n 0 lt is

  pub member_taken : named ++ take (i + 1) members ≡ (named ++ take i members) ++ n ∷ []
  member_taken = ap (λ z. named ++ z) (one_taken members i n 0 lt is) ∙ sym (append_assoc named (take i members) (n ∷ []))

  pub next_named : In n numbers × (In n (named ++ take i members) → ⊥) → NamedSoFar numbers named members i → NamedSoFar numbers named members (i + 1)
  next_named new before answer h =
      before answer (subst (λ z. are_new numbers (named ++ take i members) z answer) (sym member_next)
      (goes_on tt _ (holds new) (subst (λ z. are_new numbers z (drop (i + 1) members) answer) member_taken h)))

  pub next_is_not : (In n numbers × (In n (named ++ take i members) → ⊥) → ⊥) → NamedSoFar numbers named members i → are_new numbers named members (Err (Member n))
  next_is_not old before = before (Err (Member n)) (subst (λ z. are_new numbers (named ++ take i members) z (Err (Member n))) (sym member_next) (stops _ (lacks old)))

pub all_named : (numbers named members : List ℕ) (i : ℕ) → length members ≤ i → NamedSoFar numbers named members i → are_new numbers named members (Ok tt)
all_named numbers named members i ge before = before (Ok tt) (subst (λ z. are_new numbers (named ++ take i members) z (Ok tt)) (sym (drop_all i members ge)) returned)

-- ---- items

pub first_new : (numbers before xs ys : List ℕ) (fault : CheckFault) → Refuses (are_new numbers before xs) fault → Refuses (are_new numbers before (xs ++ ys)) fault
first_new numbers before xs ys OutOfMemory h = tt
first_new numbers before [] ys (Refused why) h = elim h [ ]
first_new numbers before (x ∷ xs) ys (Refused why) (stops _ h) = stops why h
first_new numbers before (x ∷ xs) ys (Refused why) (goes_on u _ h k) = goes_on u _ h (first_new numbers (before ++ x ∷ []) xs ys (Refused why) k)

pub both_new : (numbers before xs ys : List ℕ) (answer : Result (Unit {0}) StepRefused) → are_new numbers before xs (Ok tt) → are_new numbers (before ++ xs) ys answer
    → are_new numbers before (xs ++ ys) answer
both_new numbers before [] ys answer h k = subst (λ z. are_new numbers z ys answer) (append-nil before) k
both_new numbers before (x ∷ xs) ys answer (goes_on u _ h rest) k =
    goes_on u _ h (both_new numbers (before ++ x ∷ []) xs ys answer rest (subst (λ z. are_new numbers z ys answer) (sym (append_assoc before (x ∷ []) xs)) k))

pub members_more : (items : List GraphItem) (item : GraphItem) → all_members (items_of (items ++ item ∷ [])) ≡ all_members (items_of items) ++ members_of (item_of item)
members_more [] item = append-nil (members_of (item_of item))
members_more (x ∷ items) item =
    ap (λ z. members_of (item_of x) ++ z) (members_more items item)
    ∙ sym (append_assoc (members_of (item_of x)) (all_members (items_of items)) (members_of (item_of item)))

-- the items before number i passed
abbrev pub ItemsNamed : List ℕ → List GraphItem → ℕ → Type 0
ItemsNamed numbers items i =
    (answer : Result (Unit {0}) StepRefused) → are_new numbers (all_members (items_of (take i items))) (all_members (items_of (drop i items))) answer
    → are_members numbers (all_members (items_of items)) answer

module _ (numbers : List ℕ) (items : List GraphItem) (i : ℕ) (item : GraphItem) (lt : i < length items) (is : item ≡ get_or items i item) where
  item_next : all_members (items_of (drop i items)) ≡ members_of (item_of item) ++ all_members (items_of (drop (i + 1) items))
  item_next = ap (λ z. all_members (items_of z)) (next_read items i item item lt is)

  pub item_taken : all_members (items_of (take (i + 1) items)) ≡ all_members (items_of (take i items)) ++ members_of (item_of item)
  item_taken = ap (λ z. all_members (items_of z)) (one_taken items i item item lt is) ∙ members_more (take i items) item

  pub item_named : are_new numbers (all_members (items_of (take i items))) (members_of (item_of item)) (Ok tt) → ItemsNamed numbers items i → ItemsNamed numbers items (i + 1)
  item_named here before answer h =
      before answer (subst (λ z. are_new numbers (all_members (items_of (take i items))) z answer) (sym item_next)
      (both_new numbers (all_members (items_of (take i items))) (members_of (item_of item)) (all_members (items_of (drop (i + 1) items))) answer here
      (subst (λ z. are_new numbers z (all_members (items_of (drop (i + 1) items))) answer) item_taken h)))

  pub item_refused : (fault : CheckFault) → Refuses (are_new numbers (all_members (items_of (take i items))) (members_of (item_of item))) fault → ItemsNamed numbers items i
      → Refuses (are_members numbers (all_members (items_of items))) fault
  item_refused OutOfMemory here before = tt
  item_refused (Refused why) here before =
      before (Err why) (subst (λ z. are_new numbers (all_members (items_of (take i items))) z (Err why)) (sym item_next)
      (first_new numbers (all_members (items_of (take i items))) (members_of (item_of item)) (all_members (items_of (drop (i + 1) items))) (Refused why) here))

pub items_named : (numbers : List ℕ) (items : List GraphItem) (i : ℕ) → length items ≤ i → ItemsNamed numbers items i → are_members numbers (all_members (items_of items)) (Ok tt)
items_named numbers items i ge before =
    before (Ok tt) (subst (λ z. are_new numbers (all_members (items_of (take i items))) (all_members (items_of z)) (Ok tt)) (sym (drop_all i items ge)) returned)

pub all_items_left : (numbers : List ℕ) (items : List GraphItem) (i : ℕ) (pairs : Unnamed) → length items ≤ i → AreUnnamed numbers (all_members (items_of (take i items))) pairs
    → AreUnnamed numbers (all_members (items_of items)) pairs
all_items_left numbers items i pairs ge are = subst (λ z. AreUnnamed numbers (all_members (items_of z)) pairs) (take_all i items ge) are
