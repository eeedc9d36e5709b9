-- Members of a list: its items, read by number; members of two lists together, and of a list's image.
use Rattle.std.specs.Prelude.{◌≡◌, ℕ, ◌≤◌, ◌⊎◌, List, [], ◌∷◌, ◌++◌, map, length, take, drop, Some, slice_get, refl}
use Rattle.std.proofs.Common.{inl, inr, zero, suc, subst, arith, take-append-drop}
use Rattle.trs_defs.specs.Member.{In, in_first, in_rest}

pub in_of_get : {T : Type 0} (xs : List T) (k : ℕ) (x : T) → slice_get xs k ≡ Some x → In x xs
in_of_get [] k x e = absurd cc
in_of_get (y ∷ xs) zero x e = let same : x ≡ y = cc in rw same in_first
in_of_get (y ∷ xs) (suc k) x e = in_rest (in_of_get xs k x e)

pub get_of_in : {T : Type 0} {x : T} {xs : List T} → In x xs → (k : ℕ) × (slice_get xs k ≡ Some x)
get_of_in in_first = (0, refl)
get_of_in (in_rest h) = let found = get_of_in h in (suc found.0, found.1)

pub in_left : {T : Type 0} {x : T} {xs : List T} (ys : List T) → In x xs → In x (xs ++ ys)
in_left ys in_first = in_first
in_left ys (in_rest h) = in_rest (in_left ys h)

pub in_right : {T : Type 0} {x : T} (xs : List T) {ys : List T} → In x ys → In x (xs ++ ys)
in_right [] h = h
in_right (y ∷ xs) h = in_rest (in_right xs h)

pub in_either : {T : Type 0} {x : T} (xs ys : List T) → In x (xs ++ ys) → In x xs ⊎ In x ys
in_either [] ys h = inr h
in_either (y ∷ xs) ys in_first = inl in_first
in_either (y ∷ xs) ys (in_rest h) = elim (in_either xs ys h) [ inl k ↦ inl (in_rest k) | inr k ↦ inr k ]

pub no_in : {T : Type 0} {x : T} → In x [] → ⊥
no_in i = elim i [ ]

pub in_or : {T : Type 0} {x y : T} {ys : List T} → In x (y ∷ ys) → (x ≡ y) ⊎ In x ys
in_or in_first = inl refl
in_or (in_rest i) = inr i

pub in_case : {T : Type 0} (P : T → Type 0) {x y : T} {xs : List T} → In x (y ∷ xs) → P x → P y ⊎ (P x × In x xs)
in_case P in_first h = inl h
in_case P (in_rest i) h = inr (h, i)

-- what holds of the members of two lists holds of those of both
pub each_of_both : {T : Type 0} (P : T → Type 0) (xs ys : List T) → ((x : T) → In x xs → P x) → ((x : T) → In x ys → P x) → (x : T) → In x (xs ++ ys) → P x
each_of_both P xs ys f g x i = elim (in_either xs ys i) [ inl j ↦ f x j | inr j ↦ g x j ]

pub in_map : {A B : Type 0} (f : A → B) {a : A} {xs : List A} → In a xs → In (f a) (map f xs)
in_map f in_first = in_first
in_map f (in_rest i) = in_rest (in_map f i)

pub of_map : {A B : Type 0} (f : A → B) (xs : List A) {b : B} → In b (map f xs) → (a : A) × In a xs × (b ≡ f a)
of_map f [] i = absurd (no_in i)
of_map f (x ∷ xs) i = elim (in_or i) [
  | inl e ↦ (x, in_first, e)
  | inr j ↦ let o = of_map f xs j in (o.0, in_rest o.1, o.2)
]

-- members of a front of a list, and of what is left of it
pub in_take : {T : Type 0} (n : ℕ) (xs : List T) {x : T} → In x (take n xs) → In x xs
in_take n xs {x = x} i = subst (λ ys. In x ys) (take-append-drop n xs) (in_left (drop n xs) i)

pub in_drop : {T : Type 0} (n : ℕ) (xs : List T) {x : T} → In x (drop n xs) → In x xs
in_drop zero xs i = i
in_drop (suc n) [] i = absurd (no_in i)
in_drop (suc n) (y ∷ xs) i = in_rest (in_drop n xs i)

pub in_behind : {T : Type 0} (n : ℕ) (xs more : List T) {x : T} → length xs ≤ n → In x (drop n (xs ++ more)) → In x more
in_behind n [] more short i = in_drop n more i
in_behind zero (y ∷ xs) more short i = absurd (omega (arith, short))
in_behind (suc n) (y ∷ xs) more short i = in_behind n xs more (omega (arith, short)) i

pub in_taken : {T : Type 0} (n k : ℕ) (xs : List T) {x : T} → In x (drop n (take k xs)) → In x (drop n xs)
in_taken zero k xs i = in_take k xs i
in_taken (suc n) zero xs i = absurd (no_in i)
in_taken (suc n) (suc k) [] i = absurd (no_in i)
in_taken (suc n) (suc k) (y ∷ xs) i = in_taken n k xs i
