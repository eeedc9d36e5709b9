-- Items of a list, by their numbers.
use Rattle.std.specs.Prelude.{◌≡◌, ◌<◌, ℕ, List, [], ◌∷◌, length, All, map, zip, get_or, Some, slice_get}
use Rattle.std.proofs.Common.{zero, suc, refl, sym, ap, subst, arith, ◌∙◌}
use Rattle.std.proofs.lemmas.Option.{slice_get_read, slice_get-get_or, get_or_from_slice_get, slice_get_within, same_Some}
use Rattle.rewrite_core.proofs.Items.{zipped}
use Rattle.dp_core.specs.Numbered.{AreItemsOf}
use Rattle.trs_defs.proofs.ListItems.{item_there, cons_parts}

module _ {A : Type 0} (all : List A) where
  -- there are such pairs
  pub pairs_of_numbers : (numbers : List ℕ) → ((k n : ℕ) → slice_get numbers k ≡ Some n → n < length all) → (pairs : List A) × AreItemsOf all numbers pairs
  pairs_of_numbers [] within = ([], refl)
  pairs_of_numbers (n ∷ numbers) within =
      let rest = pairs_of_numbers numbers (λ k m e. within (suc k) m e) in
      let here = item_there all n (within zero n refl) in
      (here.0 ∷ rest.0, cons_both here.1 rest.1)
    where
      cons_both : {B : Type 0} {x y : B} {xs ys : List B} → x ≡ y → xs ≡ ys → x ∷ xs ≡ y ∷ ys
      cons_both e d = cc

  -- the pair of the number that is read
  pub pair_of_number : (numbers : List ℕ) (pairs : List A) (k n : ℕ) (p : A) → AreItemsOf all numbers pairs
      → slice_get numbers k ≡ Some n → slice_get all n ≡ Some p → slice_get pairs k ≡ Some p
  pair_of_number [] pairs k n p are e d = absurd cc
  pair_of_number (m ∷ numbers) [] k n p are e d = absurd cc
  pair_of_number (m ∷ numbers) (q ∷ pairs) zero n p are e d =
      let h = cons_parts (slice_get all m) (Some q) (map (slice_get all) numbers) (map (λ x. Some x) pairs) are in
      let same : m ≡ n = same_Some m n e in
      let here : slice_get all m ≡ Some p = rw same d in
      sym h.0 ∙ here
  pair_of_number (m ∷ numbers) (q ∷ pairs) (suc k) n p are e d =
      let h = cons_parts (slice_get all m) (Some q) (map (slice_get all) numbers) (map (λ x. Some x) pairs) are in
      pair_of_number numbers pairs k n p h.1 e d

  pub as_many : (numbers : List ℕ) (pairs : List A) → AreItemsOf all numbers pairs → length pairs ≡ length numbers
  as_many [] [] are = refl
  as_many [] (q ∷ pairs) are = absurd cc
  as_many (m ∷ numbers) [] are = absurd cc
  as_many (m ∷ numbers) (q ∷ pairs) are =
      let h = cons_parts (slice_get all m) (Some q) (map (slice_get all) numbers) (map (λ x. Some x) pairs) are in
      ap suc (as_many numbers pairs h.1)

  -- the pair, as it is read
  pub pair_at : (numbers : List ℕ) (taken : List A) (k : ℕ) (p : A) → All (λ n. n < length all) numbers → AreItemsOf all numbers taken
      → k < length numbers → p ≡ get_or all (get_or numbers k 0) p → slice_get taken k ≡ Some p
  pair_at numbers taken k p within are h e =
      pair_of_number numbers taken k (get_or numbers k 0) p are (slice_get-get_or numbers k 0 h)
      (slice_get_read all (length all) (get_or numbers k 0) p refl (within k 0 h) e)

  pub item_at : (numbers : List ℕ) (taken : List A) (k : ℕ) (p : A) → All (λ n. n < length all) numbers → AreItemsOf all numbers taken
      → k < length numbers → p ≡ get_or all (get_or numbers k 0) p → slice_get (zip numbers taken) k ≡ Some (get_or numbers k 0, p)
  item_at numbers taken k p within are h e =
      zipped numbers taken k (get_or numbers k 0) p (slice_get-get_or numbers k 0 h) (pair_at numbers taken k p within are h e)

pub zip_length : {A B : Type 0} (xs : List A) (ys : List B) → length ys ≡ length xs → length (zip xs ys) ≡ length xs
zip_length [] ys e = refl
zip_length (x ∷ xs) [] e = absurd (omega (arith, e))
zip_length (x ∷ xs) (y ∷ ys) e = ap suc (zip_length xs ys (omega (arith, e)))

pub within_all : (bound : ℕ) (numbers : List ℕ) → All (λ n. n < bound) numbers → (k n : ℕ) → slice_get numbers k ≡ Some n → n < bound
within_all bound numbers all k n e =
    subst (λ m. m < bound) (get_or_from_slice_get numbers k n 0 e) (all k 0 (slice_get_within numbers k n e))
