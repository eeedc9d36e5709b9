-- Elements of lists that are written or appended to.
use Rattle.std.proofs.Common.{◌≡◌, ◌≢◌, ◌⊎◌, inl, inr, ℕ, zero, suc, ◌+◌, ◌<◌, ◌≤◌, true, false, List, [], ◌∷◌, ◌++◌, length, map, take, set, Option, Some, None, is_some, is_none, slice_get, refl, sym, ap, ◌∙◌, subst, arith}
use native.Mathlib.Decide.{ℕ_discrete}
use mathlib.Core.Logic.{dite}

pub get_kept : {A : Type 0} (xs more : List A) (i : ℕ) → i < length xs → slice_get (xs ++ more) i ≡ slice_get xs i
get_kept [] more i lt = absurd (omega (arith, lt))
get_kept (x ∷ xs) more zero lt = refl
get_kept (x ∷ xs) more (suc i) lt = get_kept xs more i (omega (arith, lt))

pub get_set : {A : Type 0} (xs : List A) (i : ℕ) (x y : A) → slice_get xs i ≡ Some y → slice_get (set xs i x) i ≡ Some x
get_set [] i x y e = absurd cc
get_set (z ∷ xs) zero x y e = refl
get_set (z ∷ xs) (suc i) x y e = get_set xs i x y e

pub get_set_other : {A : Type 0} (xs : List A) (i k : ℕ) (x : A) → k ≢ i → slice_get (set xs i x) k ≡ slice_get xs k
get_set_other [] i k x ne = refl
get_set_other (z ∷ xs) zero zero x ne = absurd (ne refl)
get_set_other (z ∷ xs) zero (suc k) x ne = refl
get_set_other (z ∷ xs) (suc i) zero x ne = refl
get_set_other (z ∷ xs) (suc i) (suc k) x ne = let other : k ≢ i = λ same. ne cc in get_set_other xs i k x other

pub length_set : {A : Type 0} (xs : List A) (i : ℕ) (x : A) → length (set xs i x) ≡ length xs
length_set [] i x = refl
length_set (z ∷ xs) zero x = refl
length_set (z ∷ xs) (suc i) x = ap suc (length_set xs i x)

pub take_set : {A : Type 0} (n : ℕ) (xs : List A) (i : ℕ) (x : A) → take n (set xs i x) ≡ set (take n xs) i x
take_set zero xs i x = refl
take_set (suc n) [] i x = refl
take_set (suc n) (y ∷ xs) zero x = refl
take_set (suc n) (y ∷ xs) (suc i) x = ap (λ ys. y ∷ ys) (take_set n xs i x)

pub length_take : {A : Type 0} (n : ℕ) (xs : List A) → length (take n xs) ≤ length xs
length_take zero xs = omega arith
length_take (suc n) [] = omega arith
length_take (suc n) (x ∷ xs) = omega (arith, length_take n xs)

pub length_take_le : {A : Type 0} (n : ℕ) (xs : List A) → length (take n xs) ≤ n
length_take_le zero xs = omega arith
length_take_le (suc n) [] = omega arith
length_take_le (suc n) (x ∷ xs) = omega (arith, length_take_le n xs)

-- the list up to a place
pub take_there : {A : Type 0} (xs : List A) (i : ℕ) (x : A) → slice_get xs i ≡ Some x → take (suc i) xs ≡ take i xs ++ x ∷ []
take_there [] i x there = absurd cc
take_there (y ∷ xs) zero x there = let same : y ≡ x = cc in ap (λ z. z ∷ []) same
take_there (y ∷ xs) (suc i) x there = ap (λ zs. y ∷ zs) (take_there xs i x there)

pub one_value : {A : Type 0} (o : Option A) (x y : A) → o ≡ Some x → o ≡ Some y → x ≡ y
one_value o x y a b = cc

pub not_some : {A : Type 0} (o : Option A) → is_some o ≡ false → o ≡ None
not_some None e = refl
not_some (Some x) e = absurd cc

pub none_of : {A : Type 0} (o : Option A) → is_none o ≡ true → o ≡ None
none_of None e = refl
none_of (Some x) e = absurd cc

-- what stands in a list that was written at n
pub set_cases : {A : Type 0} (xs : List A) (n k : ℕ) (old x y : A) → slice_get xs n ≡ Some old → slice_get (set xs n x) k ≡ Some y
    → ((k ≡ n) × (y ≡ x)) ⊎ ((k ≢ n) × (slice_get xs k ≡ Some y))
set_cases xs n k old x y was there = dite (ℕ_discrete k n)
    (λ same. let here = get_set xs n x old was in
    let there_n = subst (λ (j : ℕ). slice_get (set xs n x) j ≡ Some y) same there in
    inl (same, one_value (slice_get (set xs n x) n) y x there_n here))
    (λ other. inr ((λ e. other e), sym (get_set_other xs n k x (λ e. other e)) ∙ there))

pub set_there : {A : Type 0} (xs : List A) (n k : ℕ) (x y : A) → k ≢ n → slice_get xs k ≡ Some y → slice_get (set xs n x) k ≡ Some y
set_there xs n k x y other there = get_set_other xs n k x other ∙ there

pub append_right : {A : Type 0} (xs ys : List A) (j k : ℕ) (y : A) → k ≡ length xs + j → slice_get ys j ≡ Some y → slice_get (xs ++ ys) k ≡ Some y
append_right [] ys j k y e there = let same : k ≡ j = omega (arith, e) in rw same there
append_right (x ∷ xs) ys j zero y e there = absurd (omega (arith, e))
append_right (x ∷ xs) ys j (suc k) y e there = append_right xs ys j k y (omega (arith, e)) there

pub append_cases : {A : Type 0} (xs ys : List A) (k : ℕ) (y : A) → slice_get (xs ++ ys) k ≡ Some y
    → (slice_get xs k ≡ Some y) ⊎ ((j : ℕ) × (k ≡ length xs + j) × (slice_get ys j ≡ Some y))
append_cases [] ys k y there = inr (k, omega arith, there)
append_cases (x ∷ xs) ys zero y there = inl there
append_cases (x ∷ xs) ys (suc k) y there = go (append_cases xs ys k y there)
  where
    go : (slice_get xs k ≡ Some y) ⊎ ((j : ℕ) × (k ≡ length xs + j) × (slice_get ys j ≡ Some y))
        → (slice_get xs k ≡ Some y) ⊎ ((j : ℕ) × (suc k ≡ length (x ∷ xs) + j) × (slice_get ys j ≡ Some y))
    go (inl e) = inl e
    go (inr (j, e, f)) = inr (j, omega (arith, e), f)

-- what stands in a list behind which one was put
pub more_cases : {A : Type 0} (xs : List A) (x : A) (k : ℕ) (y : A) → slice_get (xs ++ x ∷ []) k ≡ Some y
    → (slice_get xs k ≡ Some y) ⊎ ((k ≡ length xs) × (y ≡ x))
more_cases xs x k y there = go (append_cases xs (x ∷ []) k y there)
  where
    go : (slice_get xs k ≡ Some y) ⊎ ((j : ℕ) × (k ≡ length xs + j) × (slice_get (x ∷ []) j ≡ Some y)) → (slice_get xs k ≡ Some y) ⊎ ((k ≡ length xs) × (y ≡ x))
    go (inl e) = inl e
    go (inr (zero, e, f)) = inr (omega (arith, e), cc)
    go (inr (suc j, e, f)) = absurd cc

pub map_cases : {A B : Type 0} (f : A → B) (xs : List A) (k : ℕ) (y : B) → slice_get (map f xs) k ≡ Some y → (x : A) × (slice_get xs k ≡ Some x) × (y ≡ f x)
map_cases f [] k y there = absurd cc
map_cases f (x ∷ xs) zero y there = (x, refl, cc)
map_cases f (x ∷ xs) (suc k) y there = map_cases f xs k y there
