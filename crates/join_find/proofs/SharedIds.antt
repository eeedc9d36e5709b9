-- Ids that two lists have in common, as the terms that they stand for.
use Rattle.std.proofs.Common.{◌≡◌, ◌<◌, ◌≤◌, ℕ, ◌⊎◌, inl, inr, All, List, [], ◌∷◌, length, Some, slice_get, refl, ap, sym, ◌∙◌, subst}
use Rattle.std.proofs.lemmas.List.Elements.{All-head, All-tail}
use Rattle.std.specs.Prelude.{IfOk, MatchOption, Result, Ok, Err, Option, None}
use Rattle.trs_defs.specs.Member.{In, in_first, in_rest}
use Rattle.trs_defs.specs.Tree.{Tree}
use Rattle.trs_defs.specs.Path.{PlacedRule}
use Rattle.trs_defs.proofs.Members.{in_or, of_map, in_map, no_in}
use Rattle.term_pool.specs.Pooled.{AreDistinct, tree_at}
use Rattle.term_pool.specs.Listed.{Listed, HasTerm}
use Rattle.term_pool.specs.ListedIds.{listed, listed_at, ids_of}
use Rattle.term_pool.proofs.PoolTrees.{stands, stands_at}
use Rattle.rewrite_core.specs.PathsOfJoin.{PathsOfJoin}
use Rattle.join_find.specs.First.{First, first_here, first_later}
use Rattle.join_find.specs.Common.{IsFirstCommon, HasNoCommon}
use Rattle.join_find.specs.CommonIds.{Reached, IsFirstCommonId, HasNoCommonId, IsSifted, sifted_none, sifted_there, sifted_out}
use Rattle.join_find.proofs.Firsts.{none_of_all, first_in_list, holds_now}

-- an id of the list is that of some entry
pub id_nowhere : (entries : List Reached) (id k : ℕ) → length entries ≤ k → ((j : ℕ) (e : Reached) → j < k → slice_get entries j ≡ Some e → e.0 ≡ id → ⊥) → In id (ids_of entries) → ⊥
id_nowhere entries id k all none there =
    let (e, i, same) = of_map (λ (x : Reached). x.0) entries there in
    none_of_all (λ (x : Reached). x.0 ≡ id) entries k all none e i (sym same)

pub id_of_first : (entries : List Reached) (id : ℕ) (e : Reached) → First (λ (x : Reached). x.0 ≡ id) entries e → In id (ids_of entries)
id_of_first entries id e first =
    let P : ℕ → Type 0 = λ i. In i (ids_of entries) in
    subst P (holds_now first) (in_map (λ (x : Reached). x.0) (first_in_list first))

first_or : {A : Type 0} {fact : A → Type 0} {x a : A} {xs : List A} → First fact (x ∷ xs) a → ((x ≡ a) × fact x) ⊎ ((fact x → ⊥) × First fact xs a)
first_or (first_here is) = inl (refl, is)
first_or (first_later passed rest) = inr (passed, rest)

no_first : {A : Type 0} {fact : A → Type 0} {a : A} → First fact [] a → ⊥
no_first f = elim f [ ]

-- ---- as terms

module _ (pool : List Tree) where
  -- all entries stay, where the pool has all terms
  pub all_sifted : (es : List Reached) → All (λ e. e.0 < length pool) es → IsSifted pool (listed_at pool es) es
  all_sifted [] below = sifted_none
  all_sifted (e ∷ es) below =
      sifted_there (stands pool e.0 (All-head (λ (x : Reached). x.0 < length pool) e es below)) refl (all_sifted es (All-tail (λ (x : Reached). x.0 < length pool) e es below))

  here_with : (e : Listed) (es : List Listed) (t : Tree) → e.term ≡ t → HasTerm t (e ∷ es)
  here_with e es t same = (e.path, (let P : Tree → Type 0 = λ u. In (record { term = u; path = e.path }) (e ∷ es) in subst P same in_first))

  later_with : (e : Listed) (es : List Listed) (t : Tree) → HasTerm t es → HasTerm t (e ∷ es)
  later_with e es t h = (h.0, in_rest h.1)

  first_or_later : (e : Listed) (es : List Listed) (t : Tree) → HasTerm t (e ∷ es) → (e.term ≡ t) ⊎ HasTerm t es
  first_or_later e es t h = elim (in_or h.1) [ inl same ↦ inl (sym (ap (λ (x : Listed). x.term) same)) | inr later ↦ inr (h.0, later) ]

  pub term_of_id : (full : List Listed) (ks : List Reached) (i : ℕ) → IsSifted pool full ks → In i (ids_of ks) → HasTerm (tree_at pool i) full
  term_of_id full ks i sifted_none h = absurd (no_in h)
  term_of_id full ks i (sifted_there {e = e} {k = k} {es = es} {ks = rest} is path more) h = elim (in_or h) [
    | inl same ↦ here_with e es (tree_at pool i) (sym (stands_at pool k.0 e.term is) ∙ ap (tree_at pool) (sym same))
    | inr later ↦ later_with e es (tree_at pool i) (term_of_id es rest i more later)
  ]
  term_of_id full ks i (sifted_out {e = e} {es = es} {ks = rest} none more) h = later_with e es (tree_at pool i) (term_of_id es rest i more h)

  module _ (distinct : AreDistinct pool) where
    pub id_of_term : (full : List Listed) (ks : List Reached) (i : ℕ) → i < length pool → IsSifted pool full ks → HasTerm (tree_at pool i) full → In i (ids_of ks)
    id_of_term full ks i below sifted_none h = absurd (no_in h.1)
    id_of_term full ks i below (sifted_there {e = e} {k = k} {es = es} {ks = rest} is path more) h = elim (first_or_later e es (tree_at pool i) h) [
      | inl same ↦
          let equal : i ≡ k.0 = distinct.same i k.0 e.term (stands pool i below ∙ ap (λ t. Some t) (sym same)) is in
          subst (λ j. In i (j ∷ ids_of rest)) equal in_first
      | inr later ↦ in_rest (id_of_term es rest i below more later)
    ]
    id_of_term full ks i below (sifted_out {e = e} {es = es} {ks = rest} none more) h = elim (first_or_later e es (tree_at pool i) h) [
      | inl same ↦ absurd (none i (stands pool i below ∙ ap (λ t. Some t) (sym same)))
      | inr later ↦ id_of_term es rest i below more later
    ]

    -- the first entry with an id that the other list has
    pub first_left_term : (full : List Listed) (ks lefts : List Reached) (left : Reached) → IsSifted pool full ks → All (λ e. e.0 < length pool) lefts
        → First (λ (e : Reached). In e.0 (ids_of ks)) lefts left
        → First (λ (e : Listed). HasTerm e.term full) (listed_at pool lefts) (listed pool left) × (left.0 < length pool)
    first_left_term full ks [] left sifted below first = elim first [ ]
    first_left_term full ks (x ∷ xs) left sifted below (first_here is) =
        (first_here (term_of_id full ks left.0 sifted is), All-head (λ (y : Reached). y.0 < length pool) x xs below)
    first_left_term full ks (x ∷ xs) left sifted below (first_later passed rest) =
        let here : x.0 < length pool = All-head (λ (y : Reached). y.0 < length pool) x xs below in
        let later = first_left_term full ks xs left sifted (All-tail (λ (y : Reached). y.0 < length pool) x xs below) rest in
        (first_later (λ h. passed (id_of_term full ks x.0 here sifted h)) later.0, later.1)

    entry_is : (e : Listed) (t : Tree) (path : List PlacedRule) → e.term ≡ t → path ≡ e.path → e ≡ record { term = t; path = path }
    entry_is e t path same_term same_path =
        ap (λ (u : Tree). record { term = u; path = e.path }) same_term ∙ ap (λ (p : List PlacedRule). record { term = t; path = p }) (sym same_path)

    -- the first entry with this id
    pub first_right_term : (full : List Listed) (ks : List Reached) (right : Reached) (i : ℕ) → i < length pool → IsSifted pool full ks
        → First (λ (e : Reached). e.0 ≡ i) ks right → First (λ (e : Listed). e.term ≡ tree_at pool i) full (record { term = tree_at pool i; path = right.1.items })
    first_right_term full ks right i below sifted_none first = absurd (no_first first)
    first_right_term full ks right i below (sifted_there {e = e} {k = k} {es = es} {ks = rest} is path more) first = elim (first_or first) [
      | inl here ↦
          let term : e.term ≡ tree_at pool i = sym (stands_at pool k.0 e.term is) ∙ ap (tree_at pool) here.1 in
          let same_path : right.1.items ≡ e.path = ap (λ (x : Reached). x.1.items) (sym here.0) ∙ path in
          let P : Listed → Type 0 = λ x. First (λ (y : Listed). y.term ≡ tree_at pool i) (e ∷ es) x in
          subst P (entry_is e (tree_at pool i) right.1.items term same_path) (first_here term)
      | inr later ↦
          first_later (λ same. later.0 (distinct.same k.0 i e.term is (stands pool i below ∙ ap (λ t. Some t) (sym same))))
          (first_right_term es rest right i below more later.1)
    ]
    first_right_term full ks right i below (sifted_out {e = e} {es = es} {ks = rest} none more) first =
        first_later (λ same. none i (stands pool i below ∙ ap (λ t. Some t) (sym same))) (first_right_term es rest right i below more first)

    -- the first common id is that of the first common term
    pub common_terms : (lefts ks : List Reached) (full : List Listed) (join : PathsOfJoin) → All (λ e. e.0 < length pool) lefts → IsSifted pool full ks
        → IsFirstCommonId lefts ks join → IsFirstCommon (listed_at pool lefts) full join
    common_terms lefts ks full join below sifted h =
        let left = first_left_term full ks lefts h.left sifted below h.first_left in
        let right = first_right_term full ks h.right h.left.0 left.1 sifted h.first_right in
        let t = tree_at pool h.left.0 in
        let L : List PlacedRule → Type 0 = λ p. First (λ (e : Listed). HasTerm e.term full) (listed_at pool lefts) (record { term = t; path = p }) in
        let R : List PlacedRule → Type 0 = λ p. First (λ (e : Listed). e.term ≡ t) full (record { term = t; path = p }) in
        record { term = t; first_left = subst L (sym h.left_path) left.0; first_right = subst R (sym h.right_path) right }

    pub no_common_terms : (lefts ks : List Reached) (full : List Listed) → All (λ e. e.0 < length pool) lefts → IsSifted pool full ks
        → HasNoCommonId lefts ks → HasNoCommon (listed_at pool lefts) full
    no_common_terms lefts ks full below sifted h = record { none = λ e i there. go lefts e i there below h.none }
      where
        go : (lefts : List Reached) (e : Listed) → In e (listed_at pool lefts) → HasTerm e.term full → All (λ x. x.0 < length pool) lefts
            → ((x : Reached) → In x lefts → In x.0 (ids_of ks) → ⊥) → ⊥
        go [] e i there below none = no_in i
        go (x ∷ xs) e i there below none = elim (in_or i) [
          | inl same ↦
              let here : x.0 < length pool = All-head (λ (y : Reached). y.0 < length pool) x xs below in
              let P : Tree → Type 0 = λ t. HasTerm t full in
              none x in_first (id_of_term full ks x.0 here sifted (subst P (ap (λ (y : Listed). y.term) same) there))
          | inr later ↦ go xs e later there (All-tail (λ (y : Reached). y.0 < length pool) x xs below) (λ y j. none y (in_rest j))
        ]

    -- the same of what a search for common ids answered
    pub common_answer : {E : Type 0} (lefts ks : List Reached) (full : List Listed) (found : Result (Option PathsOfJoin) E) → All (λ e. e.0 < length pool) lefts → IsSifted pool full ks
        → IfOk found (λ o. MatchOption o (HasNoCommonId lefts ks) (IsFirstCommonId lefts ks))
        → IfOk found (λ o. MatchOption o (HasNoCommon (listed_at pool lefts) full) (IsFirstCommon (listed_at pool lefts) full))
    common_answer lefts ks full (Ok None) below sifted h = no_common_terms lefts ks full below sifted h
    common_answer lefts ks full (Ok (Some join)) below sifted h = common_terms lefts ks full join below sifted h
    common_answer lefts ks full (Err e) below sifted h = tt
