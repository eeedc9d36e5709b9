-- The entries of an interpretation, as they are made.
use Rattle.std.specs.Prelude.{◌≡◌, ◌<◌, ◌≤◌, ℕ, ◌+◌, List, [], ◌∷◌, ◌++◌, Vec, length, map, drop, get_or}
use Rattle.std.specs.declared.alloc.Global.{Global}
use Rattle.std.proofs.Common.{sym, ap, ap₂, ◌∙◌, append_assoc}
use Rattle.std.proofs.lemmas.List.{append-nil, map-append, drop_all}
use Rattle.std.proofs.lemmas.Option.{slice_get-get_or}
use Rattle.order_search.proofs.dp_core.Collecting.{next_item}
use Rattle.poly_lin.specs.Plain.{plain}
use Rattle.order_search.specs.Slots.{table_of}
use Rattle.order_search.specs.OrderSpace.{slots_of}
use Rattle.order_search.specs.Distinct.{AreDistinct}
use Rattle.poly_find.specs.PolyRow.{poly_entry}
use Rattle.poly_find.specs.PolyPlaces.{parts_by, values_at, starts}
use Rattle.poly_find.proofs.Starts.{said_values}

module _ (arities symbols values : List ℕ) where
  abbrev pub said : ℕ → ℕ × List ℕ
  said f = poly_entry arities (table_of (slots_of (parts_by arities) symbols) values) f

  abbrev pub AreSoFar : ℕ → List (ℕ × Vec ℕ Global) → Type 0
  AreSoFar i made = map said symbols ≡ map plain made ++ map said (drop i symbols)

  pub one_entry_more : AreDistinct symbols → (i f n start : ℕ) (coefficients : Vec ℕ Global) (old new : List (ℕ × Vec ℕ Global)) → i < length symbols
      → f ≡ get_or symbols i 0 → n ≡ parts_by arities f → start ≡ starts (parts_by arities) symbols i → coefficients.items ≡ values_at values start n
      → new ≡ old ++ (f, coefficients) ∷ [] → AreSoFar i old → AreSoFar (i + 1) new
  one_entry_more distinct i f n start coefficients old new below is many begins made grown before =
      let g = get_or symbols i 0 in
      let count : n ≡ parts_by arities g = many ∙ ap (parts_by arities) is in
      let same : coefficients.items ≡ (said g).1 =
      made ∙ (ap₂ (λ (k m : ℕ). values_at values k m) begins count ∙ said_values (parts_by arities) symbols values i distinct below) in
      let whole : plain (f, coefficients) ≡ said g = ap₂ (λ (x : ℕ) (l : List ℕ). (x, l)) is same in
      let opened : drop i symbols ≡ g ∷ drop (i + 1) symbols = next_item symbols i g (slice_get-get_or symbols i 0 below) in
      let more : map plain old ++ said g ∷ [] ≡ map plain new =
      ap (λ (x : ℕ × List ℕ). map plain old ++ x ∷ []) (sym whole) ∙ (sym (map-append plain old ((f, coefficients) ∷ [])) ∙ ap (λ (l : List (ℕ × Vec ℕ Global)). map plain l) (sym grown)) in
      before
      ∙ (ap (λ (l : List ℕ). map plain old ++ map said l) opened
      ∙ (sym (append_assoc (map plain old) (said g ∷ []) (map said (drop (i + 1) symbols)))
      ∙ ap (λ (l : List (ℕ × List ℕ)). l ++ map said (drop (i + 1) symbols)) more))

  pub all_entries : (i : ℕ) (made : List (ℕ × Vec ℕ Global)) → length symbols ≤ i → AreSoFar i made → map plain made ≡ map said symbols
  all_entries i made past before = sym (before ∙ (ap (λ (l : List ℕ). map plain made ++ map said l) (drop_all i symbols past) ∙ append-nil (map plain made)))
