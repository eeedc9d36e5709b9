-- Components that wait for others, one edge after another.
use Rattle.std.specs.Prelude.{◌≡◌, ◌<◌, ◌≤◌, ◌↔◌, ◌⊎◌, ℕ, ◌+◌, ◌==◌, Bool, true, false, IsTrue, IsSome, IfSome, List, [], ◌∷◌, ◌++◌, length, take, get_or, Option, Some, None, slice_get, slice_set, refl}
use Rattle.std.specs.Ordering.{nat_cmp, is_gt, is_lt}
use Rattle.std.specs.BTreeSet.{BTreeSet, contains, Updates}
use Rattle.std.proofs.Common.{inl, inr, sym, ap, subst, arith, ◌∙◌}
use Rattle.std.proofs.lemmas.Grind.{common_steps}
use Rattle.std.proofs.lemmas.Bool.{eqb-true, eq-eqb}
use Rattle.std.proofs.lemmas.List.{take_all}
use Rattle.std.proofs.lemmas.Option.{same_Some, slice_get_within}
use native.Mathlib.Decide.{dec_lt, ℕ_discrete}
use Rattle.trs_defs.specs.Member.{In, in_first}
use Rattle.trs_defs.proofs.Members.{no_in, in_left, in_right, in_either}
use Rattle.dp_graph.specs.GraphConditions.{lists_of}
use Rattle.dp_graph.specs.PlaceLists.{AreEmpty, PutsBehind}
use Rattle.dp_graph.specs.PutOut.{ComesBefore}
use Rattle.dp_graph.specs.Rows.{Follows}
use Rattle.dp_graph.specs.Waiting.{Has, Sets, Adds, OneEdge, RowEdges, LeadsTo, AllEdges, IsFreeLeader, IsReadySet, AddsIf, WaitsFor, WaitsForNone, WaitAlike, TakesOut, Trims, IsOut, LooksAt, Releases, Other, IsOne, OfRow, OfRows}
use Rattle.dp_graph.specs.declared.waiting.Waiting.{Waiting}
use Rattle.dp_graph.proofs.FoundLaws.{taken_more, more_taken}
use Rattle.dp_graph.proofs.ListPlaces.{length_set, set_here, set_elsewhere, set_at, in_single, lists_length}
use Rattle.dp_graph.proofs.ReversedLaws.{put_follows}
use Rattle.dp_graph.proofs.Sets.{at_number, at_others, true_is_not_false, none_in_empty, no_keys}

-- ---- sets and lists

pub no_items : (xs : List ℕ) → length xs ≡ 0 → xs ≡ []
no_items [] e = refl
no_items (x ∷ xs) e = absurd (omega (arith, e))

pub none_listed : (xs : List ℕ) → ((k : ℕ) → In k xs → ⊥) → length xs ≡ 0
none_listed [] h = refl
none_listed (x ∷ xs) h = absurd (h x in_first)

module _ (set now : BTreeSet ℕ) (v : ℕ) (sets : Sets set now v false) where
  pub was_in : (k : ℕ) → Has now k → Has set k
  was_in k h = elim (ℕ_discrete k v) [
    | yes same ↦ absurd (true_is_not_false (contains nat_cmp now v) (subst (λ z. Has now z) same h) (at_number set now v false sets))
    | no other ↦ sym (at_others set now v false sets k other) ∙ h
  ]

  pub still_in : (k : ℕ) → (k ≡ v → ⊥) → Has set k → Has now k
  still_in k other h = at_others set now v false sets k other ∙ h

  pub gone : Has now v → ⊥
  gone h = true_is_not_false (contains nat_cmp now v) h (at_number set now v false sets)

module _ (set now : BTreeSet ℕ) (v : ℕ) (sets : Sets set now v true) where
  pub in_or_new : (k : ℕ) → Has now k → Has set k ⊎ (k ≡ v)
  in_or_new k h = elim (ℕ_discrete k v) [ yes same ↦ inr same | no other ↦ inl (sym (at_others set now v true sets k other) ∙ h) ]

  pub new_in : (k : ℕ) → Has set k ⊎ (k ≡ v) → Has now k
  new_in k h = elim (ℕ_discrete k v) [
    | yes same ↦ subst (λ z. Has now z) (sym same) (at_number set now v true sets)
    | no other ↦ elim h [ inl i ↦ at_others set now v true sets k other ∙ i | inr same ↦ absurd (other same) ]
  ]

pub if_added : (b : Bool) (v : ℕ) (old new : BTreeSet ℕ) → b ≡ true → Sets old new v true → AddsIf b v old new
if_added b v old new is_true sets l = (
  λ h. elim (in_or_new old new v sets l h) [ inl i ↦ inl i | inr same ↦ inr (is_true, same) ],
  λ h. new_in old new v sets l (elim h [ inl i ↦ inl i | inr e ↦ inr e.1 ]),
)

pub not_added : (b : Bool) (v : ℕ) (old : BTreeSet ℕ) → b ≡ false → AddsIf b v old old
not_added b v old is_false l = (λ h. inl h, λ h. elim h [ inl i ↦ i | inr e ↦ absurd (true_is_not_false b e.0 is_false) ])

-- ---- what is waited for at first

pub edge_added : (lists new : List (List ℕ)) (from to : ℕ) → to < length lists → (from ≡ to → ⊥) → PutsBehind lists new to from → Adds (OneEdge from to) lists new
edge_added lists new from to lt differ puts = record {
  count = puts.count;
  exact = λ l k. (
    λ f. elim ((put_follows lists new to from lt puts l k).0 f) [ inl g ↦ inl g | inr g ↦ inr (g.0, g.1, differ) ],
    λ h. (put_follows lists new to from lt puts l k).1 (elim h [ inl g ↦ inl g | inr g ↦ inr (g.0, g.1) ]),
  );
}

pub no_edge_added : (lists : List (List ℕ)) (from to : ℕ) → from ≡ to → Adds (OneEdge from to) lists lists
no_edge_added lists from to same = record { count = refl; exact = λ l k. (λ h. inl h, λ h. elim h [ inl i ↦ i | inr e ↦ absurd (e.2 same) ]) }

pub no_row_added : (row : List ℕ) (from : ℕ) (leaders : List ℕ) (lists : List (List ℕ)) → Adds (RowEdges (take 0 row) from leaders) lists lists
no_row_added row from leaders lists = record { count = refl; exact = λ l k. (λ h. inl h, λ h. elim h [ inl i ↦ i | inr e ↦ absurd (no_in e.1) ]) }

pub row_more : (row leaders : List ℕ) (from i x to : ℕ) (old mid new : List (List ℕ)) → i < length row → x ≡ get_or row i 0 → slice_get leaders x ≡ Some to
    → Adds (RowEdges (take i row) from leaders) old mid → Adds (OneEdge from to) mid new → Adds (RowEdges (take (i + 1) row) from leaders) old new
row_more row leaders from i x to old mid new lt is led before adds = record {
  count = adds.count ∙ before.count;
  exact = λ l k. (
    λ h. elim ((adds.exact l k).0 h) [
      | inl g ↦ elim ((before.exact l k).0 g) [
        | inl f ↦ inl f
        | inr (j, j_in, at, k_is, d) ↦ inr (j, more_taken row i x j lt is (inl j_in), at, k_is, d)
      ]
      | inr (l_is, k_is, d) ↦ inr (x, more_taken row i x x lt is (inr refl), led ∙ ap (λ z. Some z) (sym l_is), k_is, λ e. d (e ∙ l_is))
    ],
    λ h. (adds.exact l k).1 (elim h [
      | inl f ↦ inl ((before.exact l k).1 (inl f))
      | inr (j, j_in, at, k_is, d) ↦ elim (taken_more row i x j lt is j_in) [
        | inl g ↦ inl ((before.exact l k).1 (inr (j, g, at, k_is, d)))
        | inr same ↦
            let l_is : l ≡ to = same_Some l to (sym at ∙ (ap (slice_get leaders) same ∙ led)) in
            inr (l_is, k_is, λ e. d (e ∙ sym l_is))
      ]
    ]),
  );
}

pub all_row : (row leaders : List ℕ) (from i : ℕ) (old new : List (List ℕ)) → length row ≤ i → Adds (RowEdges (take i row) from leaders) old new → Adds (RowEdges row from leaders) old new
all_row row leaders from i old new ge adds = subst (λ z. Adds (RowEdges z from leaders) old new) (take_all i row ge) adds

pub record EdgesSoFar (rows : List (List ℕ)) (leaders : List ℕ) (lists : List (List ℕ)) (i : ℕ) : Type 0 where
  pub count : length lists ≡ length leaders
  pub exact : (l k : ℕ) → Follows lists l k ↔ ((e : LeadsTo rows leaders l k) × (e.from < i))

pub no_edges : (rows : List (List ℕ)) (leaders : List ℕ) (lists : List (List ℕ)) (n : ℕ) → n ≡ length leaders → AreEmpty n lists → EdgesSoFar rows leaders lists 0
no_edges rows leaders lists n size none = record {
  count = none.count ∙ size;
  exact = λ l k. (λ (list, at, i). absurd (no_in (subst (In k) (none.none l list at) i)), λ h. absurd (let lt = h.1 in omega (arith, lt)));
}

pub edges_more : (rows : List (List ℕ)) (leaders : List ℕ) (old new : List (List ℕ)) (i from : ℕ) (row : List ℕ) → slice_get rows i ≡ Some row → slice_get leaders i ≡ Some from
    → Adds (RowEdges row from leaders) old new → EdgesSoFar rows leaders old i → EdgesSoFar rows leaders new (i + 1)
edges_more rows leaders old new i from row at led adds before = record {
  count = adds.count ∙ before.count;
  exact = λ l k. (
    λ h. elim ((adds.exact l k).0 h) [
      | inl g ↦ (let (e, lt) = (before.exact l k).0 g in (e, omega (arith, lt)))
      | inr (j, j_in, of, k_is, d) ↦ (
        record {
          from = i;
          to = j;
          follows = (row, at, j_in);
          of_other = led ∙ ap (λ z. Some z) (sym k_is);
          of_this = of;
          differ = λ e. d (sym k_is ∙ e);
        },
        omega arith,
      )
    ],
    λ (e, lt). (adds.exact l k).1 (elim (dec_lt e.from i) [
      | yes s ↦ inl ((before.exact l k).1 (e, s))
      | no s ↦
          let same : e.from ≡ i = omega (arith, s, lt) in
          let (r, is, j_in) = e.follows in
          let k_is : k ≡ from = same_Some k from (sym e.of_other ∙ (ap (slice_get leaders) same ∙ led)) in
          inr (e.to, subst (In e.to) (same_Some r row (sym is ∙ (ap (slice_get rows) same ∙ at))) j_in, e.of_this, k_is, λ d. e.differ (k_is ∙ d))
    ]),
  );
}

pub all_edges : (rows : List (List ℕ)) (leaders : List ℕ) (lists : List (List ℕ)) (i : ℕ) → length rows ≤ i → EdgesSoFar rows leaders lists i → AllEdges rows leaders lists
all_edges rows leaders lists i ge so_far = record {
  count = so_far.count;
  exact = λ l k. (
    λ h. ((so_far.exact l k).0 h).0,
    λ e. (so_far.exact l k).1 (e, (let w = slice_get_within rows e.from e.follows.0 e.follows.1 in omega (arith, w, ge))),
  );
}

-- ---- those that are ready

pub ReadySoFar : (ℕ → Type 0) → BTreeSet ℕ → ℕ → Type 0
ReadySoFar free set i = (l : ℕ) → Has set l ↔ (free l × (l < i))

pub none_ready : (free : ℕ → Type 0) (set : BTreeSet ℕ) → set.keys ≡ [] → ReadySoFar free set 0
unfolding ReadySoFar
none_ready free set none l = (λ h. absurd (none_in_empty set l none h), λ h. absurd (let lt = h.1 in omega (arith, lt)))

pub ready_more : (free : ℕ → Type 0) (old new : BTreeSet ℕ) (i : ℕ) (b : Bool) → IsTrue b ↔ free i → AddsIf b i old new → ReadySoFar free old i → ReadySoFar free new (i + 1)
unfolding ReadySoFar
ready_more free old new i b says adds before l = (
  λ h. elim ((adds l).0 h) [
    | inl g ↦ (let (f, lt) = (before l).0 g in (f, omega (arith, lt)))
    | inr (t, same) ↦ (subst free (sym same) (says.0 t), omega (arith, same))
  ],
  λ (f, lt). (adds l).1 (elim (dec_lt l i) [
    | yes s ↦ inl ((before l).1 (f, s))
    | no s ↦ let same : l ≡ i = omega (arith, s, lt) in inr (says.1 (subst free same f), same)
  ]),
)

pub all_ready : (leaders : List ℕ) (lists : List (List ℕ)) (set : BTreeSet ℕ) (i : ℕ) → length leaders ≤ i → ReadySoFar (IsFreeLeader leaders lists) set i → IsReadySet (IsFreeLeader leaders lists) set
unfolding ReadySoFar
all_ready leaders lists set i ge so_far l = (
  λ h. ((so_far l).0 h).0,
  λ f. (so_far l).1 (f, (let w = slice_get_within leaders l l f.0 in omega (arith, w, ge))),
)

-- ---- components that are put out

not_above : (v q : ℕ) → is_gt (nat_cmp v q) ≡ false → v ≤ q
not_above v q h = grind (arith, common_steps)

not_below : (v q : ℕ) → is_lt (nat_cmp v q) ≡ false → q ≤ v
not_below v q h = grind (arith, common_steps)

pub nothing_taken : (pairs : ℕ) (old new : Waiting) → old.ready.keys ≡ [] → WaitAlike old new → TakesOut pairs old new None
nothing_taken pairs old new none same = (λ l h. none_in_empty old.ready l none h, same)

pub one_taken_out : (pairs : ℕ) (old new : Waiting) (v : ℕ) → Has old.ready v → ((l : ℕ) → Has old.ready l → ComesBefore pairs l v → ⊥) → Sets old.ready new.ready v false → WaitAlike old new
    → TakesOut pairs old new (Some v)
one_taken_out pairs old new v there first sets same = (
  there,
  first,
  λ l. (
    λ h. (was_in old.ready new.ready v sets l h, λ e. gone old.ready new.ready v sets (subst (λ z. Has new.ready z) e h)),
    λ h. still_in old.ready new.ready v sets l h.1 h.0,
  ),
  same,
)

no_key : (old : Waiting) → false ≡ true ↔ (0 < length old.ready.keys) → old.ready.keys ≡ []
no_key old variant = no_keys old.ready.keys (λ lt. let h : false ≡ true = variant.1 lt in absurd cc)

-- the least, where all are pairs
pub takes_first : (pairs : ℕ) (old new : Waiting) (result : Option ℕ) → ((l : ℕ) → Has old.ready l → l < pairs) → WaitAlike old new → IsSome result ↔ (0 < length old.ready.keys)
    → IfSome result (λ v. Has old.ready v) → IfSome result (λ v. (q : ℕ) → Has old.ready q → is_gt (nat_cmp v q) ≡ false) → IfSome result (λ v. Sets old.ready new.ready v false) → TakesOut pairs old new result
takes_first pairs old new None few same variant has least sets = nothing_taken pairs old new (no_key old variant) same
takes_first pairs old new (Some v) few same variant has least sets = one_taken_out pairs old new v has
    (λ l h sooner. elim sooner.1 [ inl ge ↦ (let lt = few l h in omega (arith, lt, ge)) | inr lt ↦ (let le = not_above v l (least l h) in omega (arith, le, lt)) ])
    sets same

-- the greatest, where some is no pair
pub takes_last : (pairs : ℕ) (old new : Waiting) (result : Option ℕ) → ((l : ℕ) × Has old.ready l × pairs ≤ l) → WaitAlike old new → IsSome result ↔ (0 < length old.ready.keys)
    → IfSome result (λ v. Has old.ready v) → IfSome result (λ v. (q : ℕ) → Has old.ready q → is_lt (nat_cmp v q) ≡ false) → IfSome result (λ v. Sets old.ready new.ready v false) → TakesOut pairs old new result
takes_last pairs old new None some same variant has greatest sets = nothing_taken pairs old new (no_key old variant) same
takes_last pairs old new (Some v) (l, h, ge) same variant has greatest sets = one_taken_out pairs old new v has
    (λ _ _ sooner. let le = not_below v l (greatest l h) in let lt = sooner.0 in omega (arith, le, lt, ge)) sets same

pub first_update : (old new : BTreeSet ℕ) (result : Option ℕ) → IfSome result (λ v. Updates nat_cmp old new v false) → IfSome result (λ v. Sets old new v false)
first_update old new None h = h
first_update old new (Some v) h = h.0

pub free_leader : (leaders : List ℕ) (lists : List (List ℕ)) (v : ℕ) (list : List ℕ) (n : ℕ) (empty : Bool) → slice_get leaders v ≡ Some v → slice_get lists v ≡ Some list → n ≡ length list → empty ≡ (n == 0)
    → IsTrue empty ↔ IsFreeLeader leaders lists v
free_leader leaders lists v list n empty own at size says = (
  λ e. (own, λ k (row, is, i). no_in (subst (In k) (same_Some row list (sym is ∙ at) ∙ no_items list (sym size ∙ eqb-true n 0 (sym says ∙ e))) i)),
  λ h. says ∙ eq-eqb n 0 (size ∙ none_listed list (λ k i. h.1 k (list, at, i))),
)

pub no_free_leader : (leaders : List ℕ) (lists : List (List ℕ)) (v l : ℕ) → slice_get leaders v ≡ Some l → (l ≡ v → ⊥) → IsTrue false ↔ IsFreeLeader leaders lists v
no_free_leader leaders lists v l at other = (λ e. absurd cc, λ h. absurd (other (same_Some l v (sym at ∙ h.0))))

-- ---- lists without those that are put out

-- what is left of a list while those that are put out are taken off its end
pub record TrimsSoFar (out : List Bool) (old now : List ℕ) : Type 0 where
  pub less : (k : ℕ) → In k now → In k old
  pub kept : (k : ℕ) → In k old → (IsOut out k → ⊥) → In k now

pub all_left : (out : List Bool) (list : List ℕ) → TrimsSoFar out list list
all_left out list = record { less = λ k i. i; kept = λ k i h. i }

module _ (out : List Bool) (old now shorter : List ℕ) (x : ℕ) (ends : now ≡ shorter ++ x ∷ []) (so_far : TrimsSoFar out old now) where
  pub one_taken_off : IsOut out x → TrimsSoFar out old shorter
  one_taken_off is_out = record {
    less = λ k i. so_far.less k (subst (In k) (sym ends) (in_left (x ∷ []) i));
    kept = λ k i in_use. elim (in_either shorter (x ∷ []) (subst (In k) ends (so_far.kept k i in_use))) [
      | inl h ↦ h
      | inr h ↦ absurd (in_use (subst (IsOut out) (sym (in_single h)) is_out))
    ];
  }

  -- the last one that is not put out goes back
  pub last_put_back : (new : List ℕ) → new ≡ shorter ++ x ∷ [] → (IsOut out x → ⊥) → Trims out old new false
  last_put_back new back in_use = record {
    less = λ k i. so_far.less k (subst (In k) (back ∙ sym ends) i);
    kept = λ k i h. subst (In k) (ends ∙ sym back) (so_far.kept k i h);
    none_left = (λ e. absurd cc, λ h. absurd (in_use (h x (subst (In x) (sym back) (in_right shorter in_first)))));
  }

pub all_taken_off : (out : List Bool) (old now final : List ℕ) → now ≡ final ++ [] → length final ≡ 0 → TrimsSoFar out old now → Trims out old final true
all_taken_off out old now final ends empty so_far = record {
  less = λ k i. absurd (no_in (subst (In k) none i));
  kept = λ k i h. absurd (no_in (subst (In k) (ends ∙ ap (λ z. z ++ []) none) (so_far.kept k i h)));
  none_left = (λ e k i. absurd (no_in (subst (In k) none i)), λ h. refl);
}
  where
    none : final ≡ []
    none = no_items final empty

-- ---- leaders that are looked at

pub looks_at_none : (a : Waiting) (S : ℕ → Type 0) → ((l : ℕ) → S l → ⊥) → LooksAt a a S
looks_at_none a S none = record {
  count = refl;
  out = refl;
  waits = λ l k. (λ h. h, λ h. h);
  ready = λ l. (λ h. inl h, λ h. elim h [ inl g ↦ g | inr g ↦ absurd (none l g.0) ]);
}

pub looks_at_same : (a b : Waiting) (S T : ℕ → Type 0) → ((l : ℕ) → S l ↔ T l) → LooksAt a b S → LooksAt a b T
looks_at_same a b S T same is = record {
  count = is.count;
  out = is.out;
  waits = is.waits;
  ready = λ l. (
    λ h. elim ((is.ready l).0 h) [ inl g ↦ inl g | inr g ↦ inr ((same l).0 g.0, g.1) ],
    λ h. (is.ready l).1 (elim h [ inl g ↦ inl g | inr g ↦ inr ((same l).1 g.0, g.1) ]),
  );
}

pub looks_at_more : (a b c : Waiting) (S T : ℕ → Type 0) → LooksAt a b S → LooksAt b c T → LooksAt a c (λ l. S l ⊎ T l)
looks_at_more a b c S T first second = record {
  count = second.count ∙ first.count;
  out = second.out ∙ first.out;
  waits = λ l k. (λ h. (first.waits l k).0 ((second.waits l k).0 h), λ h. (second.waits l k).1 ((first.waits l k).1 h));
  ready = λ l. (
    λ h. elim ((second.ready l).0 h) [
      | inl g ↦ elim ((first.ready l).0 g) [ inl f ↦ inl f | inr f ↦ inr (inl f.0, λ k w. f.1 k ((second.waits l k).0 w)) ]
      | inr g ↦ inr (inr g.0, g.1)
    ],
    λ h. (second.ready l).1 (elim h [
      | inl f ↦ inl ((first.ready l).1 (inl f))
      | inr (st, free) ↦ elim st [ inl f ↦ inl ((first.ready l).1 (inr (f, λ k w. free k ((second.waits l k).1 w)))) | inr g ↦ inr (g, free) ]
    ]),
  );
}

pub looked_at_itself : (a : Waiting) (l v : ℕ) → l ≡ v → LooksAt a a (Other v (IsOne l))
looked_at_itself a l v same = looks_at_none a (Other v (IsOne l)) (λ m h. h.1 (h.0 ∙ same))

module _ (old new : Waiting) (l v : ℕ) (list now : List ℕ) (free : Bool) (lt : l < length old.blockers.items) (at : slice_get (lists_of old.blockers.items) l ≡ Some list)
    (same_out : new.out ≡ old.out) (grown : lists_of new.blockers.items ≡ slice_set (lists_of old.blockers.items) l now) (trims : Trims old.out.items list now free) (differ : l ≡ v → ⊥)
    (adds : AddsIf free l old.ready new.ready) where
  small : l < length (lists_of old.blockers.items)
  small = let n = lists_length old.blockers.items in omega (arith, lt, n)

  here : (m : ℕ) → m ≡ l → slice_get (lists_of new.blockers.items) m ≡ Some now
  here m same = subst (λ z. slice_get z m ≡ Some now) (sym grown) (subst (λ z. slice_get (slice_set (lists_of old.blockers.items) l now) z ≡ Some now) (sym same) (set_here (lists_of old.blockers.items) l now small))

  elsewhere : (m : ℕ) → (m ≡ l → ⊥) → slice_get (lists_of new.blockers.items) m ≡ slice_get (lists_of old.blockers.items) m
  elsewhere m other = ap (λ z. slice_get z m) grown ∙ set_elsewhere (lists_of old.blockers.items) l m now other

  out_now : (k : ℕ) → IsOut old.out.items k → IsOut new.out.items k
  out_now k h = subst (λ z. IsOut z.items k) (sym same_out) h

  out_before : (k : ℕ) → IsOut new.out.items k → IsOut old.out.items k
  out_before k h = subst (λ z. IsOut z.items k) same_out h

  waits_before : (m k : ℕ) → WaitsFor new m k → Dec (m ≡ l) → WaitsFor old m k
  waits_before m k ((row, is, i), in_use) (yes same) =
      let i_now : In k now = subst (In k) (same_Some row now (sym is ∙ here m same)) i in
      ((list, subst (λ z. slice_get (lists_of old.blockers.items) z ≡ Some list) (sym same) at, trims.less k i_now), λ h. in_use (out_now k h))
  waits_before m k ((row, is, i), in_use) (no other) = ((row, sym (elsewhere m other) ∙ is, i), λ h. in_use (out_now k h))

  waits_now : (m k : ℕ) → WaitsFor old m k → Dec (m ≡ l) → WaitsFor new m k
  waits_now m k ((row, is, i), in_use) (yes same) =
      let i_old : In k list = subst (In k) (same_Some row list (sym (subst (λ z. slice_get (lists_of old.blockers.items) z ≡ Some row) same is) ∙ at)) i in
      ((now, here m same, trims.kept k i_old in_use), λ h. in_use (out_before k h))
  waits_now m k ((row, is, i), in_use) (no other) = ((row, elsewhere m other ∙ is, i), λ h. in_use (out_before k h))

  -- the truth value says whether the leader waits for none
  free_now : IsTrue free → (m : ℕ) → m ≡ l → WaitsForNone new m
  free_now e m same k ((row, is, i), in_use) =
      in_use (out_now k (trims.none_left.0 e k (subst (In k) (same_Some row now (sym is ∙ here m same)) i)))

  is_free : (m : ℕ) → m ≡ l → WaitsForNone new m → IsTrue free
  is_free m same none = trims.none_left.1 (λ k i. elim (set_at old.out.items k) [
    | yes h ↦ h
    | no in_use ↦ absurd (none k ((now, here m same, i), λ h. in_use (out_before k h)))
  ])

  pub looked_at : LooksAt old new (Other v (IsOne l))
  looked_at = record {
    count = sym (lists_length new.blockers.items) ∙ (ap length grown ∙ (length_set (lists_of old.blockers.items) l now ∙ lists_length old.blockers.items));
    out = same_out;
    waits = λ m k. (λ h. waits_before m k h (ℕ_discrete m l), λ h. waits_now m k h (ℕ_discrete m l));
    ready = λ m. (
      λ h. elim ((adds m).0 h) [ inl g ↦ inl g | inr (e, same) ↦ inr ((same, λ d. differ (sym same ∙ d)), free_now e m same) ],
      λ h. (adds m).1 (elim h [ inl g ↦ inl g | inr ((same, d), none) ↦ inr (is_free m same none, same) ]),
    );
  }

pub row_looked_at : (leaders row : List ℕ) (a b c : Waiting) (v i x to : ℕ) → i < length row → x ≡ get_or row i 0 → slice_get leaders x ≡ Some to → LooksAt a b (Other v (OfRow leaders (take i row)))
    → LooksAt b c (Other v (IsOne to)) → LooksAt a c (Other v (OfRow leaders (take (i + 1) row)))
row_looked_at leaders row a b c v i x to lt is led first second =
    looks_at_same a c (λ l. Other v (OfRow leaders (take i row)) l ⊎ Other v (IsOne to) l) (Other v (OfRow leaders (take (i + 1) row))) (λ l. (
      λ h. elim h [
        | inl ((j, j_in, at), d) ↦ ((j, more_taken row i x j lt is (inl j_in), at), d)
        | inr (same, d) ↦ ((x, more_taken row i x x lt is (inr refl), led ∙ ap (λ z. Some z) (sym same)), d)
      ],
      λ ((j, j_in, at), d). elim (taken_more row i x j lt is j_in) [
        | inl g ↦ inl ((j, g, at), d)
        | inr same ↦ inr (same_Some l to (sym at ∙ (ap (slice_get leaders) same ∙ led)), d)
      ],
    )) (looks_at_more a b c (Other v (OfRow leaders (take i row))) (Other v (IsOne to)) first second)

pub rows_looked_at : (rows : List (List ℕ)) (leaders places : List ℕ) (a b c : Waiting) (v i w : ℕ) (row : List ℕ) → i < length places → w ≡ get_or places i 0 → slice_get rows w ≡ Some row
    → LooksAt a b (Other v (OfRows rows leaders (take i places))) → LooksAt b c (Other v (OfRow leaders row)) → LooksAt a c (Other v (OfRows rows leaders (take (i + 1) places)))
rows_looked_at rows leaders places a b c v i w row lt is row_is first second =
    looks_at_same a c (λ l. Other v (OfRows rows leaders (take i places)) l ⊎ Other v (OfRow leaders row) l) (Other v (OfRows rows leaders (take (i + 1) places))) (λ l. (
      λ h. elim h [
        | inl ((u, j, u_in, follows, at), d) ↦ ((u, j, more_taken places i w u lt is (inl u_in), follows, at), d)
        | inr ((j, j_in, at), d) ↦ ((w, j, more_taken places i w w lt is (inr refl), (row, row_is, j_in), at), d)
      ],
      λ ((u, j, u_in, follows, at), d). elim (taken_more places i w u lt is u_in) [
        | inl g ↦ inl ((u, j, g, follows, at), d)
        | inr same ↦
            let (r, e, j_in) = follows in
            inr ((j, subst (In j) (same_Some r row (sym e ∙ (ap (slice_get rows) same ∙ row_is))) j_in, at), d)
      ],
    )) (looks_at_more a b c (Other v (OfRows rows leaders (take i places))) (Other v (OfRow leaders row)) first second)

-- a leader is put out, and then others are looked at
pub released : (old mid new : Waiting) (v : ℕ) (S : ℕ → Type 0) → v < length old.out.items → mid.blockers ≡ old.blockers → mid.out.items ≡ slice_set old.out.items v true → mid.ready ≡ old.ready
    → LooksAt mid new S → Releases old new v S
released old mid new v S lt same_lists put_out same_ready looks = record {
  count = looks.count ∙ ap (λ z. length z.items) same_lists;
  outs = ap (λ z. length z.items) looks.out ∙ (ap length put_out ∙ length_set old.out.items v true);
  waits = λ l k. (λ h. before l k ((looks.waits l k).0 h), λ h. (looks.waits l k).1 (now l k h));
  ready = λ l. (
    λ h. elim ((looks.ready l).0 h) [ inl g ↦ inl (subst (λ z. Has z l) same_ready g) | inr g ↦ inr g ],
    λ h. (looks.ready l).1 (elim h [ inl g ↦ inl (subst (λ z. Has z l) (sym same_ready) g) | inr g ↦ inr g ]),
  );
}
  where
    out_now : (k : ℕ) → IsOut old.out.items k ⊎ (k ≡ v) → IsOut mid.out.items k
    out_now k h = subst (λ z. IsOut z k) (sym put_out) (elim (ℕ_discrete k v) [
      | yes same ↦ subst (IsOut (slice_set old.out.items v true)) (sym same) (set_here old.out.items v true lt)
      | no other ↦ elim h [ inl g ↦ set_elsewhere old.out.items v k true other ∙ g | inr same ↦ absurd (other same) ]
    ])

    out_before : (k : ℕ) → (k ≡ v → ⊥) → IsOut mid.out.items k → IsOut old.out.items k
    out_before k other h = sym (set_elsewhere old.out.items v k true other) ∙ subst (λ z. IsOut z k) put_out h

    before : (l k : ℕ) → WaitsFor mid l k → WaitsFor old l k × (k ≡ v → ⊥)
    before l k (follows, in_use) = ((subst (λ z. Follows (lists_of z.items) l k) same_lists follows, λ h. in_use (out_now k (inl h))), λ same. in_use (out_now k (inr same)))

    now : (l k : ℕ) → WaitsFor old l k × (k ≡ v → ⊥) → WaitsFor mid l k
    now l k ((follows, in_use), other) = (subst (λ z. Follows (lists_of z.items) l k) (sym same_lists) follows, λ h. in_use (out_before k other h))

-- ---- whether some place is no pair

pub last_from : (set : BTreeSet ℕ) (v n : ℕ) (b : Bool) → Has set v → IsTrue b ↔ (n ≤ v) → IsTrue b → (l : ℕ) × Has set l × n ≤ l
last_from set v n b there says e = (v, there, says.0 e)

pub none_from : (set : BTreeSet ℕ) (v n : ℕ) → ((q : ℕ) → Has set q → is_lt (nat_cmp v q) ≡ false) → v < n → (l : ℕ) → Has set l → l < n
none_from set v n greatest lt l h = let le = not_below v l (greatest l h) in omega (arith, le, lt)

pub none_in : (set : BTreeSet ℕ) (n : ℕ) → false ≡ true ↔ (0 < length set.keys) → (l : ℕ) → Has set l → l < n
none_in set n variant l h = absurd (none_in_empty set l (no_keys set.keys (λ lt. let e : false ≡ true = variant.1 lt in absurd cc)) h)
