-- What holds of the numbers of the items that pass a test.
use Rattle.std.proofs.Common.{◌≡◌, ℕ, ◌+◌, ◌<◌, ◌≤◌, Bool, true, false, cond, List, [], ◌∷◌, Some, IsTrue, All, length, take, drop, slice_get, refl, ap, ◌∙◌, zero, suc, subst, arith}
use Rattle.std.proofs.lemmas.List.Elements.{All-nil, All-cons, All-head, All-tail}
use Rattle.trs_defs.proofs.ListItems.{next_item}
use Rattle.term_pool.specs.Numbers.{numbers_where}

pub length_of_number : (b : Bool) (k : ℕ) (ks : List ℕ) → length (cond b (k ∷ ks) ks) ≡ length ks + cond b 1 0
length_of_number true k ks = omega arith
length_of_number false k ks = omega arith

module _ {T : Type 0} (test : T → Bool) where
  -- the next item
  pub number_here : (k : ℕ) (xs : List T) (x : T) → slice_get xs k ≡ Some x → IsTrue (test x) → numbers_where test k (drop k xs) ≡ k ∷ numbers_where test (k + 1) (drop (k + 1) xs)
  number_here k xs x there h = ap (numbers_where test k) (next_item xs k x there) ∙ rw h refl

  pub no_number_here : (k : ℕ) (xs : List T) (x : T) → slice_get xs k ≡ Some x → test x ≡ false → numbers_where test k (drop k xs) ≡ numbers_where test (k + 1) (drop (k + 1) xs)
  no_number_here k xs x there h = ap (numbers_where test k) (next_item xs k x there) ∙ rw h refl

  -- from item k on there are no more
  pub fewer_numbers : (m k : ℕ) (xs : List T) → length (numbers_where test (m + k) (drop k xs)) ≤ length (numbers_where test m xs)
  fewer_numbers m zero xs = let e : m + 0 ≡ m = omega arith in rw e (omega arith)
  fewer_numbers m (suc k) [] = omega arith
  fewer_numbers m (suc k) (x ∷ xs) =
      let e : m + suc k ≡ m + 1 + k = omega arith in
      rw e (omega (arith, fewer_numbers (m + 1) k xs, length_of_number (test x) m (numbers_where test (m + 1) xs)))

  pub no_numbers : (m : ℕ) (xs : List T) → ((i : ℕ) (x : T) → slice_get xs i ≡ Some x → IsTrue (test x) → ⊥) → [] ≡ numbers_where test m xs
  no_numbers m [] none = refl
  no_numbers m (x ∷ xs) none = go (test x) refl (no_numbers (m + 1) xs (λ i y there h. none (suc i) y there h))
    where
      go : (b : Bool) → test x ≡ b → [] ≡ numbers_where test (m + 1) xs → [] ≡ cond b (m ∷ numbers_where test (m + 1) xs) (numbers_where test (m + 1) xs)
      go true h rest = absurd (none zero x refl h)
      go false h rest = rest

  module _ (P : ℕ → Type 0) where
    -- all are such as the numbers of the items that pass are
    pub all_numbers : (m : ℕ) (xs : List T) → ((i k : ℕ) (x : T) → k ≡ m + i → slice_get xs i ≡ Some x → IsTrue (test x) → P k) → All P (numbers_where test m xs)
    all_numbers m [] each = All-nil P
    all_numbers m (x ∷ xs) each = go (test x) refl (all_numbers (m + 1) xs (λ i k y e there h. each (suc i) k y (omega (arith, e)) there h))
      where
        go : (b : Bool) → test x ≡ b → All P (numbers_where test (m + 1) xs) → All P (cond b (m ∷ numbers_where test (m + 1) xs) (numbers_where test (m + 1) xs))
        go true h rest = All-cons P m (numbers_where test (m + 1) xs) (each zero m x (omega arith) refl h) rest
        go false h rest = rest

    module _ (y : T) (passes : IsTrue (test y)) (n : ℕ) where
      -- what holds of them holds of the number of each item that passes
      pub each_number : (m : ℕ) (xs : List T) → All P (numbers_where test m xs) → (i : ℕ) → slice_get xs i ≡ Some y → n ≡ m + i → P n
      each_number m [] all i there is = absurd cc
      each_number m (x ∷ xs) all i there is = go (test x) refl all i there is (λ rest j at e. each_number (m + 1) xs rest j at e)
        where
          go : (b : Bool) → test x ≡ b → All P (cond b (m ∷ numbers_where test (m + 1) xs) (numbers_where test (m + 1) xs)) → (i : ℕ) → slice_get (x ∷ xs) i ≡ Some y → n ≡ m + i
              → (All P (numbers_where test (m + 1) xs) → (j : ℕ) → slice_get xs j ≡ Some y → n ≡ m + 1 + j → P n) → P n
          go true h all zero there is later = let e : m ≡ n = omega (arith, is) in subst P e (All-head P m (numbers_where test (m + 1) xs) all)
          go true h all (suc i) there is later = later (All-tail P m (numbers_where test (m + 1) xs) all) i there (omega (arith, is))
          go false h all zero there is later = let same : x ≡ y = cc in let found : test x ≡ true = rw same passes in absurd cc
          go false h all (suc i) there is later = later all i there (omega (arith, is))

      -- where it holds of those before number k, it holds of that of each item before it that passes
      pub each_before : (k : ℕ) → n < k → (m : ℕ) (xs : List T) (j : ℕ) → slice_get (numbers_where test m xs) j ≡ Some k → All P (take j (numbers_where test m xs))
          → (i : ℕ) → slice_get xs i ≡ Some y → n ≡ m + i → P n
      each_before k low m [] j at all i there is = absurd cc
      each_before k low m (x ∷ xs) j at all i there is = go (test x) refl j at all i there is (λ j at all i there is. each_before k low (m + 1) xs j at all i there is)
        where
          go : (b : Bool) → test x ≡ b → (j : ℕ) → slice_get (cond b (m ∷ numbers_where test (m + 1) xs) (numbers_where test (m + 1) xs)) j ≡ Some k
              → All P (take j (cond b (m ∷ numbers_where test (m + 1) xs) (numbers_where test (m + 1) xs))) → (i : ℕ) → slice_get (x ∷ xs) i ≡ Some y → n ≡ m + i
              → ((j : ℕ) → slice_get (numbers_where test (m + 1) xs) j ≡ Some k → All P (take j (numbers_where test (m + 1) xs)) → (i : ℕ) → slice_get xs i ≡ Some y → n ≡ m + 1 + i → P n) → P n
          go true h zero at all i there is later = let e : m ≡ k = cc in absurd (omega (arith, is, low, e))
          go true h (suc j) at all zero there is later = let e : m ≡ n = omega (arith, is) in subst P e (All-head P m (take j (numbers_where test (m + 1) xs)) all)
          go true h (suc j) at all (suc i) there is later = later j at (All-tail P m (take j (numbers_where test (m + 1) xs)) all) i there (omega (arith, is))
          go false h j at all zero there is later = let same : x ≡ y = cc in let found : test x ≡ true = rw same passes in absurd cc
          go false h j at all (suc i) there is later = later j at all i there (omega (arith, is))
