-- The entries of an order, as they are made.
use Rattle.std.specs.Prelude.{◌≡◌, ◌<◌, ◌≤◌, ℕ, ◌+◌, ◌*◌, List, [], ◌∷◌, ◌++◌, length, map, drop, get_or}
use Rattle.std.proofs.Common.{sym, ap, ap₂, subst, arith, ◌∙◌, append_assoc}
use Rattle.std.proofs.lemmas.List.{append-nil, map-append, drop_all}
use Rattle.std.proofs.lemmas.Option.{slice_get-get_or}
use Rattle.order_search.proofs.dp_core.Collecting.{next_item}
use Rattle.path_lpo.specs.declared.entries.LpoEntry.{LpoEntry}
use Rattle.path_lpo.specs.Plain.{plain}
use Rattle.path_lpo.specs.Table.{PathEntry}
use Rattle.order_search.specs.Slots.{table_of}
use Rattle.order_search.specs.OrderSpace.{slots_of}
use Rattle.order_search.specs.Distinct.{AreDistinct}
use Rattle.order_search.proofs.TwoParts.{value_of_part}
use Rattle.lpo_find.specs.LpoSpace.{filter_number}
use Rattle.lpo_find.specs.LpoRow.{lpo_entry}

module _ (arity : ℕ → ℕ) (symbols values : List ℕ) where
  abbrev pub said : ℕ → PathEntry
  said f = lpo_entry arity (table_of (slots_of (λ _. 2) symbols) values) f

  abbrev pub AreSoFar : ℕ → List LpoEntry → Type 0
  AreSoFar i made = map said symbols ≡ map plain made ++ map said (drop i symbols)

  abbrev entry_with : ℕ → ℕ → ℕ → PathEntry
  entry_with f filter rank = record { symbol = f; rank = rank; filter = filter_number (arity f) filter }

  pub one_entry_more : AreDistinct symbols → (i f : ℕ) (e : LpoEntry) (filter rank : ℕ) (old new : List LpoEntry) → i < length symbols → f ≡ get_or symbols i 0
      → filter ≡ get_or values (2 * i) 0 → rank ≡ get_or values (2 * i + 1) 0
      → plain e ≡ record { symbol = f; rank = rank; filter = filter_number (arity f) filter } → new ≡ old ++ e ∷ [] → AreSoFar i old → AreSoFar (i + 1) new
  one_entry_more distinct i f e filter rank old new below is filter_is rank_is made grown before =
      let g = get_or symbols i 0 in
      let first : filter ≡ table_of (slots_of (λ _. 2) symbols) values g 0 =
      (let at : 2 * i ≡ 2 * i + 0 = omega arith in filter_is ∙ (ap (λ (j : ℕ). get_or values j 0) at ∙ sym (value_of_part symbols values i 0 distinct below (omega arith)))) in
      let second : rank ≡ table_of (slots_of (λ _. 2) symbols) values g 1 = rank_is ∙ sym (value_of_part symbols values i 1 distinct below (omega arith)) in
      let whole : plain e ≡ said g = made ∙ (ap (λ (x : ℕ). entry_with x filter rank) is ∙ ap₂ (λ (v r : ℕ). entry_with g v r) first second) in
      let opened : drop i symbols ≡ g ∷ drop (i + 1) symbols = next_item symbols i g (slice_get-get_or symbols i 0 below) in
      let more : map plain old ++ said g ∷ [] ≡ map plain new =
      ap (λ (x : PathEntry). map plain old ++ x ∷ []) (sym whole) ∙ (sym (map-append plain old (e ∷ [])) ∙ ap (λ (l : List LpoEntry). map plain l) (sym grown)) in
      before
      ∙ (ap (λ (l : List ℕ). map plain old ++ map said l) opened
      ∙ (sym (append_assoc (map plain old) (said g ∷ []) (map said (drop (i + 1) symbols)))
      ∙ ap (λ (l : List PathEntry). l ++ map said (drop (i + 1) symbols)) more))

  pub all_entries : (i : ℕ) (made : List LpoEntry) → length symbols ≤ i → AreSoFar i made → map plain made ≡ map said symbols
  all_entries i made past before = sym (before ∙ (ap (λ (l : List ℕ). map plain made ++ map said l) (drop_all i symbols past) ∙ append-nil (map plain made)))

pub entry_by_arity : (e : PathEntry) (f filter rank n m : ℕ) → e ≡ record { symbol = f; rank = rank; filter = filter_number n filter } → n ≡ m
    → e ≡ record { symbol = f; rank = rank; filter = filter_number m filter }
entry_by_arity e f filter rank n m is same = subst (λ (k : ℕ). e ≡ record { symbol = f; rank = rank; filter = filter_number k filter }) same is
