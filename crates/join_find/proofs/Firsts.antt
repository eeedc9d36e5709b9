-- The first item of a list, and lists side by side.
use Rattle.std.specs.Prelude.{◌≡◌, ◌<◌, ◌≤◌, ℕ, ◌+◌, List, [], ◌∷◌, ◌++◌, length, take, Some, slice_get, refl}
use Rattle.std.proofs.Common.{zero, suc, ap, sym, ◌∙◌, subst, get_or, arith}
use Rattle.std.proofs.Math.Seq.{take-suc}
use Rattle.std.proofs.lemmas.List.{take_all}
use Rattle.std.proofs.lemmas.Option.{slice_get_read, slice_get_within, same_Some}
use Rattle.std.proofs.Math.Decide.{ℕ_discrete}
use Rattle.trs_defs.specs.Member.{In, in_first, in_rest}
use Rattle.trs_defs.proofs.Members.{in_of_get, get_of_in}
use Rattle.join_find.specs.First.{First, first_here, first_later, Along, along_end, along_item}

pub first_at : {A : Type 0} (fact : A → Type 0) (xs : List A) (i : ℕ) (a : A) → slice_get xs i ≡ Some a → fact a
    → ((k : ℕ) (b : A) → k < i → slice_get xs k ≡ Some b → fact b → ⊥) → First fact xs a
first_at fact [] i a there is before = absurd cc
first_at fact (x ∷ xs) zero a there is before =
    let same : x ≡ a = cc there in
    subst (λ y. First fact (y ∷ xs) a) (sym same) (first_here is)
first_at fact (x ∷ xs) (suc i) a there is before =
    first_later (before 0 x (omega arith) refl) (first_at fact xs i a there is (λ k b l. before (suc k) b (omega (arith, l))))

-- the same, of an item that was read
pub first_read : {A : Type 0} (fact : A → Type 0) (xs : List A) (i : ℕ) (a : A) → i < length xs → a ≡ get_or xs i a → fact a
    → ((k : ℕ) (b : A) → k < i → slice_get xs k ≡ Some b → fact b → ⊥) → First fact xs a
first_read fact xs i a below is holds before = first_at fact xs i a (slice_get_read xs (length xs) i a refl below is) holds before

-- the first item of which a fact holds
pub holds_now : {A : Type 0} {fact : A → Type 0} {xs : List A} {a : A} → First fact xs a → fact a
holds_now (first_here is) = is
holds_now (first_later passed rest) = holds_now rest

pub first_in_list : {A : Type 0} {fact : A → Type 0} {xs : List A} {a : A} → First fact xs a → In a xs
first_in_list (first_here is) = in_first
first_in_list (first_later passed rest) = in_rest (first_in_list rest)

pub along_more : {A B : Type 0} (related : A → B → Type 0) {xs : List A} {ys : List B} (a : A) (b : B) → Along related xs ys → related a b
    → Along related (xs ++ a ∷ []) (ys ++ b ∷ [])
along_more related a b along_end h = along_item h along_end
along_more related a b (along_item first rest) h = along_item first (along_more related a b rest h)

pub along_one_more : {A B : Type 0} (related : A → B → Type 0) (xs : List A) (ys new : List B) (i : ℕ) (a : A) (b : B) → i < length xs → a ≡ get_or xs i a
    → Along related (take i xs) ys → related a b → new ≡ ys ++ b ∷ [] → Along related (take (i + 1) xs) new
along_one_more {A} {B} related xs ys new i a b below is along h made =
    let n : i + 1 ≡ suc i = omega arith in
    let X : List A → Type 0 = λ zs. Along related zs (ys ++ b ∷ []) in
    let G : A → Type 0 = λ x. X (take i xs ++ x ∷ []) in
    let Y : List B → Type 0 = λ zs. Along related (take (i + 1) xs) zs in
    subst Y (sym made) (subst X (sym (ap (λ k. take k xs) n ∙ take-suc xs i a below)) (subst G is (along_more related a b along h)))

pub along_all : {A B : Type 0} (related : A → B → Type 0) (xs : List A) (ys : List B) (i : ℕ) → length xs ≤ i → Along related (take i xs) ys → Along related xs ys
along_all {A} {B} related xs ys i all along = let X : List A → Type 0 = λ zs. Along related zs ys in subst X (take_all i xs all) along

-- what stands at a place of the second list has one at its place in the first
pub along_to : {A B : Type 0} {related : A → B → Type 0} {xs : List A} {ys : List B} → Along related xs ys → (i : ℕ) (b : B) → slice_get ys i ≡ Some b → (a : A) × (slice_get xs i ≡ Some a) × related a b
along_to along_end i b there = absurd cc
along_to {related = related} (along_item {a = a} {b = c} h rest) zero b there = (a, refl, subst (λ y. related a y) (same_Some c b there) h)
along_to (along_item h rest) (suc i) b there = along_to rest i b there

-- and the other way round
pub along_from : {A B : Type 0} {related : A → B → Type 0} {xs : List A} {ys : List B} → Along related xs ys → (i : ℕ) (a : A) → slice_get xs i ≡ Some a → (b : B) × (slice_get ys i ≡ Some b) × related a b
along_from along_end i a at = absurd cc
along_from {related = related} (along_item {a = x} {b = y} h rest) zero a at = (y, refl, subst (λ z. related z y) (same_Some x a at) h)
along_from (along_item h rest) (suc i) a at = along_from rest i a at

pub along_weaker : {A B : Type 0} (related other : A → B → Type 0) {xs : List A} {ys : List B} → ((a : A) (b : B) → related a b → other a b) → Along related xs ys → Along other xs ys
along_weaker related other weaker along_end = along_end
along_weaker related other weaker (along_item {a = a} {b = b} h rest) = along_item (weaker a b h) (along_weaker related other weaker rest)

pub read_in : {A : Type 0} (xs : List A) (i : ℕ) (a : A) → i < length xs → a ≡ get_or xs i a → In a xs
read_in xs i a below is = in_of_get xs i a (slice_get_read xs (length xs) i a refl below is)

-- no item of the whole list has the fact, where none before its end has
pub none_of_all : {A : Type 0} (fact : A → Type 0) (xs : List A) (i : ℕ) → length xs ≤ i
    → ((k : ℕ) (a : A) → k < i → slice_get xs k ≡ Some a → fact a → ⊥) → (a : A) → In a xs → fact a → ⊥
none_of_all fact xs i all none a there =
    let (k, at) = get_of_in there in
    let below = slice_get_within xs k a at in
    none k a (omega (arith, below, all)) at

-- one item further
pub none_further : {A : Type 0} (fact : A → Type 0) (xs : List A) (i : ℕ) (a : A) → i < length xs → a ≡ get_or xs i a → (fact a → ⊥)
    → ((k : ℕ) (b : A) → k < i → slice_get xs k ≡ Some b → fact b → ⊥) → (k : ℕ) (b : A) → k < i + 1 → slice_get xs k ≡ Some b → fact b → ⊥
none_further {A} fact xs i a below is not_here none k b within there = elim (ℕ_discrete k i) [
  | yes same ↦
      let here : slice_get xs i ≡ Some a = slice_get_read xs (length xs) i a refl below is in
      let at : slice_get xs k ≡ slice_get xs i = ap (λ (j : ℕ). slice_get xs j) same in
      let equal : b ≡ a = same_Some b a (sym there ∙ at ∙ here) in
      (λ h. not_here (subst fact equal h))
  | no other ↦ none k b (omega (arith, within, other)) there
]
