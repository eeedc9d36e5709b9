-- Items of lists by their places: read, set, and put behind others.
use Rattle.std.specs.Prelude.{◌≡◌, ◌<◌, ◌≤◌, ◌⊎◌, ℕ, ◌+◌, Bool, true, false, List, [], ◌∷◌, ◌++◌, length, replicate, get_or, All, Some, None, Vec, slice_get, slice_set, refl}
use Rattle.std.specs.declared.alloc.Global.{Global}
use Rattle.std.specs.List.{Contains}
use Rattle.std.specs.List.Sorted.{IsStrictlyIncreasing}
use Rattle.std.proofs.Common.{zero, suc, inl, inr, sym, ap, subst, arith, ◌∙◌, length-append}
use Rattle.std.proofs.lemmas.List.Kept.{AllPairs-from_increasing}
use Rattle.std.proofs.lemmas.Option.{slice_get-get_or, slice_get_read, get_or_from_slice_get, same_Some, slice_get_within}
use native.Mathlib.Decide.{dec_lt, ℕ_discrete}
use Rattle.trs_defs.specs.Member.{In}
use Rattle.trs_defs.proofs.Members.{in_or, no_in, get_of_in, in_of_get}
use Rattle.dp_graph.specs.GraphConditions.{lists_of}

pub past_none : {A : Type 0} (xs : List A) (n : ℕ) → length xs ≤ n → slice_get xs n ≡ None
past_none [] n h = refl
past_none (x ∷ xs) zero h = absurd (omega (arith, h))
past_none (x ∷ xs) (suc n) h = past_none xs n (omega (arith, h))

pub none_past : {A : Type 0} (xs : List A) (n : ℕ) → slice_get xs n ≡ None → length xs ≤ n
none_past [] n e = omega arith
none_past (x ∷ xs) zero e = absurd cc
none_past (x ∷ xs) (suc n) e = let h = none_past xs n e in omega (arith, h)

pub flag_at : (flags : List Bool) (i : ℕ) (d b : Bool) → i < length flags → get_or flags i d ≡ b → slice_get flags i ≡ Some b
flag_at [] i d b lt e = absurd (omega (arith, lt))
flag_at (f ∷ flags) zero d b lt e = ap (λ z. Some z) e
flag_at (f ∷ flags) (suc i) d b lt e = flag_at flags i d b (omega (arith, lt)) e

pub set_at : (flags : List Bool) (w : ℕ) → Dec (slice_get flags w ≡ Some true)
set_at [] w = no (λ e. cc)
set_at (true ∷ flags) zero = yes refl
set_at (false ∷ flags) zero = no (λ e. cc)
set_at (b ∷ flags) (suc w) = set_at flags w

pub not_both : (flags : List Bool) (i : ℕ) → slice_get flags i ≡ Some true → slice_get flags i ≡ Some false → ⊥
not_both flags i e d = let h : true ≡ false = same_Some true false (sym e ∙ d) in absurd cc

-- a flag that is there and is not set
pub unset_there : (flags : List Bool) (i : ℕ) → i < length flags → (slice_get flags i ≡ Some true → ⊥) → slice_get flags i ≡ Some false
unset_there [] i lt h = absurd (omega (arith, lt))
unset_there (true ∷ flags) zero lt h = absurd (h refl)
unset_there (false ∷ flags) zero lt h = refl
unset_there (b ∷ flags) (suc i) lt h = unset_there flags i (omega (arith, lt)) h

-- ---- a list with one item set

pub length_set : {A : Type 0} (xs : List A) (k : ℕ) (x : A) → length (slice_set xs k x) ≡ length xs
length_set [] k x = refl
length_set (y ∷ xs) zero x = refl
length_set (y ∷ xs) (suc k) x = ap suc (length_set xs k x)

pub set_here : {A : Type 0} (xs : List A) (k : ℕ) (x : A) → k < length xs → slice_get (slice_set xs k x) k ≡ Some x
set_here [] k x lt = absurd (omega (arith, lt))
set_here (y ∷ xs) zero x lt = refl
set_here (y ∷ xs) (suc k) x lt = set_here xs k x (omega (arith, lt))

pub set_elsewhere : {A : Type 0} (xs : List A) (k j : ℕ) (x : A) → (j ≡ k → ⊥) → slice_get (slice_set xs k x) j ≡ slice_get xs j
set_elsewhere [] k j x other = refl
set_elsewhere (y ∷ xs) zero zero x other = absurd (other refl)
set_elsewhere (y ∷ xs) zero (suc j) x other = refl
set_elsewhere (y ∷ xs) (suc k) zero x other = refl
set_elsewhere (y ∷ xs) (suc k) (suc j) x other = set_elsewhere xs k j x (λ e. other (ap suc e))

-- what stands at a place after one is set
pub set_cases : {A : Type 0} (xs : List A) (k j : ℕ) (x y : A) → slice_get (slice_set xs k x) j ≡ Some y → ((j ≡ k) × (x ≡ y)) ⊎ ((j ≡ k → ⊥) × (slice_get xs j ≡ Some y))
set_cases xs k j x y e = elim (ℕ_discrete j k) [
  | yes same ↦
      let at : slice_get (slice_set xs k x) k ≡ Some y = subst (λ z. slice_get (slice_set xs k x) z ≡ Some y) same e in
      let lt : k < length xs = (let w = slice_get_within (slice_set xs k x) k y at in let c = length_set xs k x in omega (arith, w, c)) in
      inl (same, same_Some x y (sym (set_here xs k x lt) ∙ at))
  | no other ↦ inr (other, sym (set_elsewhere xs k j x other) ∙ e)
]

-- ---- items behind others

pub last_or_there : {A : Type 0} (xs : List A) (y x : A) (n : ℕ) → slice_get (xs ++ y ∷ []) n ≡ Some x → (slice_get xs n ≡ Some x) ⊎ ((n ≡ length xs) × (y ≡ x))
last_or_there [] y x zero e = inr (refl, same_Some y x e)
last_or_there [] y x (suc n) e = absurd cc
last_or_there (z ∷ xs) y x zero e = inl e
last_or_there (z ∷ xs) y x (suc n) e = elim (last_or_there xs y x n e) [ inl h ↦ inl h | inr h ↦ inr (ap suc h.0, h.1) ]

pub still_there : {A : Type 0} (xs ys : List A) (n : ℕ) (x : A) → slice_get xs n ≡ Some x → slice_get (xs ++ ys) n ≡ Some x
still_there [] ys n x e = absurd cc
still_there (z ∷ xs) ys zero x e = e
still_there (z ∷ xs) ys (suc n) x e = still_there xs ys n x e

pub get_left : {A : Type 0} (xs ys : List A) (m : ℕ) (k : A) → m < length xs → slice_get (xs ++ ys) m ≡ Some k → slice_get xs m ≡ Some k
get_left [] ys m k h e = absurd (omega arith)
get_left (x ∷ xs) ys zero k h e = e
get_left (x ∷ xs) ys (suc m) k h e = get_left xs ys m k (omega arith) e

pub length_more : {A : Type 0} (xs : List A) (x : A) → length (xs ++ x ∷ []) ≡ length xs + 1
length_more xs x = length-append xs (x ∷ [])

pub in_single : {j k : ℕ} → In j (k ∷ []) → j ≡ k
in_single i = elim (in_or i) [ inl e ↦ e | inr h ↦ absurd (no_in h) ]

-- ---- repeated items

pub in_repeat : {A : Type 0} (n k : ℕ) (x y : A) → slice_get (replicate n x) k ≡ Some y → y ≡ x
in_repeat zero k x y e = absurd cc
in_repeat (suc n) zero x y e = sym (same_Some x y e)
in_repeat (suc n) (suc k) x y e = in_repeat n k x y e

pub length_repeat : {A : Type 0} (n : ℕ) (x : A) → length (replicate n x) ≡ n
length_repeat zero x = refl
length_repeat (suc n) x = ap suc (length_repeat n x)

pub at_repeat : {A : Type 0} (n k : ℕ) (x : A) → k < n → slice_get (replicate n x) k ≡ Some x
at_repeat zero k x h = absurd (omega (arith, h))
at_repeat (suc n) zero x h = refl
at_repeat (suc n) (suc k) x h = at_repeat n k x (omega (arith, h))

-- ---- numbers that ascend

pub lesser_of : (numbers : List ℕ) → IsStrictlyIncreasing numbers → (i j m n : ℕ) → i < j → slice_get numbers i ≡ Some m → slice_get numbers j ≡ Some n → m < n
lesser_of numbers up i j m n lt e d =
    let h = AllPairs-from_increasing numbers up i j 0 lt (slice_get_within numbers j n d) in
    let a = get_or_from_slice_get numbers i m 0 e in
    let b = get_or_from_slice_get numbers j n 0 d in
    omega (arith, h, a, b)

-- a number stands at one place
pub same_place : (numbers : List ℕ) → IsStrictlyIncreasing numbers → (i j n : ℕ) → slice_get numbers i ≡ Some n → slice_get numbers j ≡ Some n → i ≡ j
same_place numbers up i j n e d = elim (dec_lt i j) [
  | yes below ↦ absurd (let h = lesser_of numbers up i j n n below e d in omega (arith, h))
  | no not_below ↦ elim (dec_lt j i) [ yes above ↦ absurd (let h = lesser_of numbers up j i n n above d e in omega (arith, h)) | no not_above ↦ omega (arith, not_below, not_above) ]
]

pub never_falls : (numbers : List ℕ) → IsStrictlyIncreasing numbers → (i j : ℕ) → i ≤ j → j < length numbers → get_or numbers i 0 ≤ get_or numbers j 0
never_falls numbers up i j le lt = elim (dec_lt i j) [
  | yes below ↦ (let h = AllPairs-from_increasing numbers up i j 0 below lt in omega (arith, h))
  | no not_below ↦ (let same : i ≡ j = omega (arith, le, not_below) in subst (λ z. get_or numbers i 0 ≤ get_or numbers z 0) same (omega arith))
]

pub contained_in : (xs : List ℕ) (x : ℕ) → In x xs → Contains xs x
contained_in xs x i = let (k, at) = get_of_in i in (k, slice_get_within xs k x at, get_or_from_slice_get xs k x x at)

pub in_contained : (xs : List ℕ) (x : ℕ) → Contains xs x → In x xs
in_contained xs x (k, lt, e) = in_of_get xs k x (slice_get_read xs (length xs) k x refl lt (sym e))

-- ---- lists of lists

pub row_at : (rows : List (Vec ℕ Global)) (i : ℕ) (row : Vec ℕ Global) → i < length rows → row ≡ get_or rows i row → slice_get (lists_of rows) i ≡ Some row.items
row_at [] i row lt is = absurd (omega (arith, lt))
row_at (r ∷ rows) zero row lt is = ap (λ (z : Vec ℕ Global). Some z.items) (sym is)
row_at (r ∷ rows) (suc i) row lt is = row_at rows i row (omega (arith, lt)) is

pub lists_length : (rows : List (Vec ℕ Global)) → length (lists_of rows) ≡ length rows
lists_length [] = refl
lists_length (r ∷ rows) = ap suc (lists_length rows)

pub lists_more : (rows : List (Vec ℕ Global)) (row : Vec ℕ Global) → lists_of (rows ++ row ∷ []) ≡ lists_of rows ++ row.items ∷ []
lists_more [] row = refl
lists_more (x ∷ rows) row = ap (λ z. x.items ∷ z) (lists_more rows row)

pub lists_set : (rows : List (Vec ℕ Global)) (k : ℕ) (row : Vec ℕ Global) → lists_of (slice_set rows k row) ≡ slice_set (lists_of rows) k row.items
lists_set [] k row = refl
lists_set (x ∷ rows) zero row = refl
lists_set (x ∷ rows) (suc k) row = ap (λ z. x.items ∷ z) (lists_set rows k row)

-- what holds of all items holds of each
pub each_of_all : (P : ℕ → Type 0) (xs : List ℕ) → All P xs → (x : ℕ) → In x xs → P x
each_of_all P xs h x i =
    let at = get_of_in i in
    subst P (get_or_from_slice_get xs at.0 x 0 at.1) (h at.0 0 (slice_get_within xs at.0 x at.1))

pub all_of_each : (P : ℕ → Type 0) (xs : List ℕ) → ((x : ℕ) → In x xs → P x) → All P xs
all_of_each P xs h = λ k d lt. h (get_or xs k d) (in_of_get xs k (get_or xs k d) (slice_get-get_or xs k d lt))
