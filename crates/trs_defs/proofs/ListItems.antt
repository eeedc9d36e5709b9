-- Items of lists, by their numbers.
use Rattle.std.proofs.Common.{◌≡◌, ◌⊎◌, inl, inr, ℕ, ◌+◌, ◌<◌, ◌≤◌, List, [], ◌∷◌, ◌++◌, map, length, take, drop, get_or, Some, option_map, slice_get, zero, suc, refl, ap, sym, ◌∙◌, arith, add-one, take-suc}
use Rattle.std.proofs.lemmas.List.{take-append-le}
use Rattle.std.proofs.lemmas.Option.{same_Some, slice_get-map, slice_get-get_or, get_or_from_slice_get}

-- lists that are equal have equal first items, and equal rests
pub cons_parts : {T : Type 0} (x y : T) (xs ys : List T) → x ∷ xs ≡ y ∷ ys → (x ≡ y) × (xs ≡ ys)
cons_parts x y xs ys e = (cc, cc)

-- below the length there is an item
pub item_there : {T : Type 0} (xs : List T) (i : ℕ) → i < length xs → (x : T) × (slice_get xs i ≡ Some x)
item_there [] i h = absurd (omega (arith, h))
item_there (x ∷ xs) zero h = (x, refl)
item_there (x ∷ xs) (suc i) h = item_there xs i (omega (arith, h))

-- what is left of a list, from an item on
pub from_item : {T : Type 0} (xs : List T) (i : ℕ) (x : T) → slice_get xs i ≡ Some x → drop i xs ≡ x ∷ drop (suc i) xs
from_item [] i x e = absurd cc
from_item (y ∷ xs) zero x e = cc
from_item (y ∷ xs) (suc i) x e = from_item xs i x e

pub next_item : {T : Type 0} (xs : List T) (i : ℕ) (x : T) → slice_get xs i ≡ Some x → drop i xs ≡ x ∷ drop (i + 1) xs
next_item xs i x e = rw add-one (from_item xs i x e)

-- one item more of a list that others stand behind
pub take_one_more : {T : Type 0} (xs more : List T) (i : ℕ) (x : T) → i < length xs → slice_get xs i ≡ Some x → take (i + 1) (xs ++ more) ≡ take i xs ++ x ∷ []
take_one_more xs more i x below there =
    let n : i + 1 ≡ suc i = omega arith in
    let within : i + 1 ≤ length xs = omega (arith, below) in
    take-append-le (i + 1) xs more within ∙ ap (λ k. take k xs) n ∙ take-suc xs i x below ∙ ap (λ y. take i xs ++ y ∷ []) (get_or_from_slice_get xs i x x there)

-- an item of a list's image, as the item is read
pub read_image : {S T : Type 0} (f : S → T) (xs : List S) (i : ℕ) (x : S) → i < length xs → x ≡ get_or xs i x → slice_get (map f xs) i ≡ Some (f x)
read_image f xs i x lt e = slice_get-map f xs i ∙ ap (λ o. option_map f o) (slice_get-get_or xs i x lt ∙ ap (λ y. Some y) (sym e))

-- an item of a list that has grown by one
pub item_of_more : {T : Type 0} (xs : List T) (x y : T) (i : ℕ) → slice_get (xs ++ x ∷ []) i ≡ Some y → (slice_get xs i ≡ Some y) ⊎ ((i ≡ length xs) × (y ≡ x))
item_of_more [] x y zero e = inr (refl, same_Some y x (sym e))
item_of_more [] x y (suc i) e = absurd cc
item_of_more (z ∷ xs) x y zero e = inl e
item_of_more (z ∷ xs) x y (suc i) e = elim (item_of_more xs x y i e) as (λ _. (slice_get (z ∷ xs) (suc i) ≡ Some y) ⊎ ((suc i ≡ length (z ∷ xs)) × (y ≡ x))) [
  | inl h ↦ inl h
  | inr h ↦ inr (omega (arith, h.0), h.1)
]

pub old_item : {T : Type 0} (xs : List T) (x y : T) (i : ℕ) → slice_get xs i ≡ Some y → slice_get (xs ++ x ∷ []) i ≡ Some y
old_item [] x y i e = absurd cc
old_item (z ∷ xs) x y zero e = e
old_item (z ∷ xs) x y (suc i) e = old_item xs x y i e

-- items of a list that others stand behind
pub kept_item : {T : Type 0} (xs ys : List T) (i : ℕ) (x : T) → slice_get xs i ≡ Some x → slice_get (xs ++ ys) i ≡ Some x
kept_item [] ys i x e = absurd cc
kept_item (z ∷ xs) ys zero x e = e
kept_item (z ∷ xs) ys (suc i) x e = kept_item xs ys i x e

pub item_of_longer : {T : Type 0} (xs ys : List T) (i : ℕ) (x : T) → i < length xs → slice_get (xs ++ ys) i ≡ Some x → slice_get xs i ≡ Some x
item_of_longer [] ys i x h e = absurd (omega (arith, h))
item_of_longer (z ∷ xs) ys zero x h e = e
item_of_longer (z ∷ xs) ys (suc i) x h e = item_of_longer xs ys i x (omega (arith, h)) e

-- an item of a list's image
pub image_item : {S T : Type 0} (f : S → T) (xs : List S) (i : ℕ) (x : S) → slice_get xs i ≡ Some x → slice_get (map f xs) i ≡ Some (f x)
image_item f xs i x e = slice_get-map f xs i ∙ ap (option_map f) e

-- the item behind a list
pub last_item : {T : Type 0} (xs : List T) (x : T) (ys : List T) → slice_get (xs ++ x ∷ ys) (length xs) ≡ Some x
last_item [] x ys = refl
last_item (z ∷ xs) x ys = last_item xs x ys
