-- Rows that lead back, row by row.
use Rattle.std.specs.Prelude.{◌≡◌, ◌<◌, ◌≤◌, ◌↔◌, ◌⊎◌, ℕ, ◌+◌, List, [], ◌∷◌, ◌++◌, length, take, get_or, Some, Vec, slice_get, slice_set, refl}
use Rattle.std.specs.declared.alloc.Global.{Global}
use Rattle.std.proofs.Common.{inl, inr, sym, ap, subst, arith, ◌∙◌}
use Rattle.std.proofs.lemmas.List.{take_all}
use Rattle.std.proofs.lemmas.Option.{same_Some, slice_get_within}
use native.Mathlib.Decide.{dec_lt, ℕ_discrete}
use Rattle.trs_defs.specs.Member.{In, in_first}
use Rattle.trs_defs.proofs.Members.{no_in, in_left, in_right, in_either}
use Rattle.trs_defs.proofs.ListItems.{item_there}
use Rattle.dp_graph.specs.GraphConditions.{lists_of}
use Rattle.dp_graph.specs.Rows.{Follows, StayWithin}
use Rattle.dp_graph.specs.Reversed.{AreReversed, AddsBack}
use Rattle.dp_graph.specs.PlaceLists.{AreEmpty, PutsBehind}
use Rattle.dp_graph.proofs.FoundLaws.{taken_more, more_taken}
use Rattle.dp_graph.proofs.ListPlaces.{length_set, set_here, set_elsewhere, last_or_there, lists_more, lists_set, row_at, length_more, in_single}

-- ---- lists

pub no_lists : AreEmpty 0 []
no_lists = record { count = refl; none = λ k list e. absurd cc }

pub one_empty_more : (lists new : List (Vec ℕ Global)) (list : Vec ℕ Global) (n : ℕ) → new ≡ lists ++ list ∷ [] → list.items ≡ [] → AreEmpty n (lists_of lists) → AreEmpty (n + 1) (lists_of new)
one_empty_more lists new list n grown none before =
    let whole : lists_of new ≡ lists_of lists ++ list.items ∷ [] = ap lists_of grown ∙ lists_more lists list in
    subst (AreEmpty (n + 1)) (sym whole) (record {
      count = (let c = before.count in let l = length_more (lists_of lists) list.items in omega (arith, c, l));
      none = λ k other e. elim (last_or_there (lists_of lists) list.items other k e) [ inl h ↦ before.none k other h | inr h ↦ sym h.1 ∙ none ];
    })

pub put_at : (lists : List (Vec ℕ Global)) (k place : ℕ) (list new : Vec ℕ Global) → k < length lists → list ≡ get_or lists k list → new.items ≡ list.items ++ place ∷ []
    → PutsBehind (lists_of lists) (lists_of (slice_set lists k new)) k place
put_at lists k place list new lt is grown =
    subst (λ z. PutsBehind (lists_of lists) z k place) (sym (lists_set lists k new)) (record {
      count = length_set (lists_of lists) k new.items;
      here = λ row e.
          let same : list.items ≡ row = same_Some list.items row (sym (row_at lists k list lt is) ∙ e) in
          set_here (lists_of lists) k new.items (slice_get_within (lists_of lists) k row e) ∙ ap (λ z. Some z) (grown ∙ ap (λ z. z ++ place ∷ []) same);
      others = λ l other. set_elsewhere (lists_of lists) k l new.items other;
    })

module _ (old new : List (List ℕ)) (k place : ℕ) (lt : k < length old) (puts : PutsBehind old new k place) where
  pub put_follows : (j l : ℕ) → Follows new j l ↔ (Follows old j l ⊎ ((j ≡ k) × (l ≡ place)))
  put_follows j l = (λ f. to f (ℕ_discrete j k), λ h. from h (ℕ_discrete j k))
    where
      to : Follows new j l → Dec (j ≡ k) → Follows old j l ⊎ ((j ≡ k) × (l ≡ place))
      to (row, at, i) (yes same) =
          let r = item_there old k lt in
          let e : row ≡ r.0 ++ place ∷ [] = same_Some row (r.0 ++ place ∷ []) (sym (subst (λ z. slice_get new z ≡ Some row) same at) ∙ puts.here r.0 r.1) in
          elim (in_either r.0 (place ∷ []) (subst (In l) e i)) [
            | inl h ↦ inl (r.0, subst (λ z. slice_get old z ≡ Some r.0) (sym same) r.1, h)
            | inr h ↦ inr (same, in_single h)
          ]
      to (row, at, i) (no other) = inl (row, sym (puts.others j other) ∙ at, i)

      from : Follows old j l ⊎ ((j ≡ k) × (l ≡ place)) → Dec (j ≡ k) → Follows new j l
      from (inl (row, at, i)) (yes same) =
          (row ++ place ∷ [], subst (λ z. slice_get new z ≡ Some (row ++ place ∷ [])) (sym same) (puts.here row (subst (λ z. slice_get old z ≡ Some row) same at)), in_left (place ∷ []) i)
      from (inl (row, at, i)) (no other) = (row, puts.others j other ∙ at, i)
      from (inr (same, is)) d =
          let r = item_there old k lt in
          (r.0 ++ place ∷ [], subst (λ z. slice_get new z ≡ Some (r.0 ++ place ∷ [])) (sym same) (puts.here r.0 r.1), in_right r.0 (subst (λ z. In z (place ∷ [])) (sym is) in_first))

-- ---- a row

pub none_added : (row : List ℕ) (i : ℕ) (old : List (List ℕ)) → AddsBack (take 0 row) i old old
none_added row i old = record { count = refl; exact = λ j k. (λ f. inl f, λ h. elim h [ inl f ↦ f | inr g ↦ absurd (no_in g.0) ]) }

pub one_added : (row : List ℕ) (m i x : ℕ) (old mid new : List (List ℕ)) → m < length row → x ≡ get_or row m 0 → x < length mid → AddsBack (take m row) i old mid → PutsBehind mid new x i
    → AddsBack (take (m + 1) row) i old new
one_added row m i x old mid new lt is small before puts = record {
  count = puts.count ∙ before.count;
  exact = λ j k. (
    λ f. elim ((put_follows mid new x i small puts j k).0 f) [
      | inl h ↦ elim ((before.exact j k).0 h) [ inl g ↦ inl g | inr g ↦ inr (more_taken row m x j lt is (inl g.0), g.1) ]
      | inr h ↦ inr (more_taken row m x j lt is (inr h.0), h.1)
    ],
    λ h. (put_follows mid new x i small puts j k).1 (elim h [
      | inl g ↦ inl ((before.exact j k).1 (inl g))
      | inr g ↦ elim (taken_more row m x j lt is g.0) [ inl f ↦ inl ((before.exact j k).1 (inr (f, g.1))) | inr same ↦ inr (same, g.1) ]
    ]),
  );
}

pub all_added : (row : List ℕ) (m i : ℕ) (old new : List (List ℕ)) → length row ≤ m → AddsBack (take m row) i old new → AddsBack row i old new
all_added row m i old new ge adds = subst (λ z. AddsBack z i old new) (take_all m row ge) adds

-- ---- all rows

pub record BackSoFar (rows back : List (List ℕ)) (i : ℕ) : Type 0 where
  pub count : length back ≡ length rows
  pub exact : (j k : ℕ) → Follows back j k ↔ (Follows rows k j × (k < i))

pub no_back : (rows back : List (List ℕ)) (n : ℕ) → n ≡ length rows → AreEmpty n back → BackSoFar rows back 0
no_back rows back n size none = record {
  count = none.count ∙ size;
  exact = λ j k. (λ (row, at, i). absurd (no_in (subst (In k) (none.none j row at) i)), λ h. absurd (let lt = h.1 in omega (arith, lt)));
}

pub next_back : (rows old new : List (List ℕ)) (i : ℕ) (row : List ℕ) → slice_get rows i ≡ Some row → AddsBack row i old new → BackSoFar rows old i → BackSoFar rows new (i + 1)
next_back rows old new i row at adds before = record {
  count = adds.count ∙ before.count;
  exact = λ j k. (
    λ f. elim ((adds.exact j k).0 f) [
      | inl h ↦ (let g = (before.exact j k).0 h in (g.0, (let lt = g.1 in omega (arith, lt))))
      | inr h ↦ ((row, ap (slice_get rows) h.1 ∙ at, h.0), (let same = h.1 in omega (arith, same)))
    ],
    λ (f, lt). (adds.exact j k).1 (elim (dec_lt k i) [
      | yes s ↦ inl ((before.exact j k).1 (f, s))
      | no s ↦
          let same : k ≡ i = omega (arith, s, lt) in
          let (r, e, j_in) = f in
          inr (subst (In j) (same_Some r row (sym e ∙ (ap (slice_get rows) same ∙ at))) j_in, same)
    ]),
  );
}

pub all_back : (rows back : List (List ℕ)) (i : ℕ) → length rows ≤ i → StayWithin rows → BackSoFar rows back i → AreReversed rows back
all_back rows back i ge stay so_far = record {
  count = sym so_far.count;
  reversed = λ a b. (
    λ f. (so_far.exact b a).1 (f, (let w = slice_get_within rows a f.0 f.1 in omega (arith, w, ge))),
    λ f. ((so_far.exact b a).0 f).0,
  );
  within = stay;
}
