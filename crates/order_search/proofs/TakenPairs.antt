-- A loop that takes the items of some numbers.
use Rattle.std.specs.Prelude.{◌≡◌, ◌<◌, ◌≤◌, ℕ, ◌+◌, List, [], ◌∷◌, ◌++◌, length, drop, map, All, get_or, Some, Option, slice_get}
use Rattle.std.proofs.Common.{refl, sym, ap, ◌∙◌, append_assoc}
use Rattle.std.proofs.lemmas.List.{append-nil, map-append, drop_all}
use Rattle.std.proofs.lemmas.Option.{slice_get_read, slice_get-get_or}
use Rattle.dp_core.proofs.Collecting.{next_item}

module _ {A : Type 0} (all : List A) (numbers : List ℕ) where
  -- the taken ones stand for the first of the numbers
  abbrev pub AreFirst : ℕ → List A → Type 0
  AreFirst k old = map (slice_get all) numbers ≡ map (λ x. Some x) old ++ map (slice_get all) (drop k numbers)

  pub one_taken : (k : ℕ) (p : A) (old new : List A) → k < length numbers → All (λ n. n < length all) numbers → p ≡ get_or all (get_or numbers k 0) p
      → AreFirst k old → new ≡ old ++ p ∷ [] → AreFirst (k + 1) new
  one_taken k p old new below within is before grown =
      let there : slice_get all (get_or numbers k 0) ≡ Some p = slice_get_read all (length all) (get_or numbers k 0) p refl (within k 0 below) is in
      let next : drop k numbers ≡ get_or numbers k 0 ∷ drop (k + 1) numbers = next_item numbers k (get_or numbers k 0) (slice_get-get_or numbers k 0 below) in
      let more : map (λ x. Some x) old ++ Some p ∷ [] ≡ map (λ x. Some x) new = sym (map-append (λ (x : A). Some x) old (p ∷ [])) ∙ ap (λ (l : List A). map (λ x. Some x) l) (sym grown) in
      before
      ∙ (ap (λ (l : List ℕ). map (λ x. Some x) old ++ map (slice_get all) l) next
      ∙ (ap (λ (o : Option A). map (λ x. Some x) old ++ o ∷ map (slice_get all) (drop (k + 1) numbers)) there
      ∙ (sym (append_assoc (map (λ x. Some x) old) (Some p ∷ []) (map (slice_get all) (drop (k + 1) numbers)))
      ∙ ap (λ (l : List (Option A)). l ++ map (slice_get all) (drop (k + 1) numbers)) more)))

  pub all_taken : (k : ℕ) (old : List A) → length numbers ≤ k → AreFirst k old → map (slice_get all) numbers ≡ map (λ x. Some x) old
  all_taken k old past before =
      before ∙ (ap (λ (l : List ℕ). map (λ x. Some x) old ++ map (slice_get all) l) (drop_all k numbers past) ∙ append-nil (map (λ x. Some x) old))
