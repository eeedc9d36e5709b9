-- The entries of an order, as they are made.
use Rattle.std.specs.Prelude.{◌≡◌, ◌<◌, ◌≤◌, ℕ, ◌+◌, ◌*◌, List, [], ◌∷◌, ◌++◌, length, map, drop, get_or}
use Rattle.std.proofs.Common.{sym, ap, ap₂, arith, ◌∙◌, append_assoc}
use Rattle.std.proofs.lemmas.List.{append-nil, drop_all}
use Rattle.std.proofs.lemmas.Option.{slice_get-get_or}
use Rattle.order_search.proofs.dp_core.Collecting.{next_item}
use Rattle.kbo_order.specs.declared.entries.KboEntry.{KboEntry}
use Rattle.order_search.specs.Slots.{table_of}
use Rattle.order_search.specs.OrderSpace.{slots_of}
use Rattle.order_search.specs.Distinct.{AreDistinct}
use Rattle.order_search.proofs.TwoParts.{value_of_part}
use Rattle.kbo_find.specs.KboRow.{entry_by}
use Rattle.kbo_find.specs.KboPlaces.{entry_with}

module _ (arity : ℕ → ℕ) (symbols values : List ℕ) where
  abbrev pub said : ℕ → KboEntry
  said f = entry_by arity (table_of (slots_of (λ _. 2) symbols) values) f

  abbrev pub AreSoFar : ℕ → List KboEntry → Type 0
  AreSoFar i made = map said symbols ≡ made ++ map said (drop i symbols)

  pub one_entry_more : AreDistinct symbols → (i f n weight rank : ℕ) (e : KboEntry) (old new : List KboEntry) → i < length symbols → f ≡ get_or symbols i 0 → n ≡ arity f
      → weight ≡ get_or values (2 * i) 0 → rank ≡ get_or values (2 * i + 1) 0 → e ≡ entry_with n f weight rank → new ≡ old ++ e ∷ [] → AreSoFar i old → AreSoFar (i + 1) new
  one_entry_more distinct i f n weight rank e old new below is count weight_is rank_is made grown before =
      let g = get_or symbols i 0 in
      let at : 2 * i ≡ 2 * i + 0 = omega arith in
      let first : weight ≡ table_of (slots_of (λ _. 2) symbols) values g 0 =
      weight_is ∙ (ap (λ (j : ℕ). get_or values j 0) at ∙ sym (value_of_part symbols values i 0 distinct below (omega arith))) in
      let second : rank ≡ table_of (slots_of (λ _. 2) symbols) values g 1 = rank_is ∙ sym (value_of_part symbols values i 1 distinct below (omega arith)) in
      let whole : e ≡ said g =
      made ∙ (ap (λ (m : ℕ). entry_with m f weight rank) count ∙ (ap (λ (x : ℕ). entry_with (arity x) x weight rank) is
      ∙ ap₂ (λ (v r : ℕ). entry_with (arity g) g v r) first second)) in
      let opened : drop i symbols ≡ g ∷ drop (i + 1) symbols = next_item symbols i g (slice_get-get_or symbols i 0 below) in
      let more : old ++ said g ∷ [] ≡ new = ap (λ (x : KboEntry). old ++ x ∷ []) (sym whole) ∙ sym grown in
      before
      ∙ (ap (λ (l : List ℕ). old ++ map said l) opened
      ∙ (sym (append_assoc old (said g ∷ []) (map said (drop (i + 1) symbols)))
      ∙ ap (λ (l : List KboEntry). l ++ map said (drop (i + 1) symbols)) more))

  pub all_entries : (i : ℕ) (made : List KboEntry) → length symbols ≤ i → AreSoFar i made → made ≡ map said symbols
  all_entries i made past before = sym (before ∙ (ap (λ (l : List ℕ). made ++ map said l) (drop_all i symbols past) ∙ append-nil made))
