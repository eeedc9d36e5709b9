-- The numbers of all pairs. They are few.
use Rattle.std.specs.Prelude.{◌≡◌, ◌≤◌, ◌<◌, ℕ, ◌+◌, Bool, true, false, List, [], ◌∷◌, ◌++◌, length, map, drop, All, Some, slice_get}
use Rattle.std.proofs.Common.{zero, suc, refl, sym, ap, subst, arith, ◌∙◌, add-one, append_assoc, length-append}
use Rattle.std.proofs.lemmas.List.{append-nil, length-map}
use Rattle.trs_defs.specs.Tree.{Tree, Trees, var, app, nil, cons}
use Rattle.trs_defs.specs.Size.{size_of, size_of_all}
use Rattle.trs_defs.specs.System.{RewriteRule, is_defined}
use Rattle.trs_core.specs.SystemLimits.{nodes_of}
use Rattle.pair_theory.specs.DependencyPair.{keep_if}
use Rattle.dp_core.specs.Numbered.{AreItemsOf, numbers_from}
use Rattle.dp_core.specs.PlacedPairs.{defined_places, defined_places_of_all, placed_below, placed_pairs_from, placed_pairs}
use Rattle.dp_core.proofs.Conclusions.{numbered_all}

pub as_many_numbers : {A : Type 0} (k : ℕ) (xs : List A) → length (numbers_from k xs) ≡ length xs
as_many_numbers k [] = refl
as_many_numbers k (x ∷ xs) = ap suc (as_many_numbers (k + 1) xs)

one_kept : {A : Type 0} (b : Bool) (x : A) (xs : List A) → length (keep_if b x xs) ≤ 1 + length xs
one_kept true x xs = omega arith
one_kept false x xs = omega arith

module _ (rules : List RewriteRule) where
  mutual
    few_places : (t : Tree) → length (defined_places rules t) ≤ size_of t
    few_places (var x) = omega arith
    few_places (app f ts) =
        let rest = few_places_of_all 1 ts in
        let one = one_kept (is_defined rules f) [] (defined_places_of_all rules 1 ts) in
        omega (arith, rest, one)

    few_places_of_all : (k : ℕ) (ts : Trees) → length (defined_places_of_all rules k ts) ≤ size_of_all ts
    few_places_of_all k nil = omega arith
    few_places_of_all k (cons t ts) =
        let first = few_places t in
        let rest = few_places_of_all (k + 1) ts in
        let mapped : length (map (λ p. k ∷ p) (defined_places rules t)) ≡ length (defined_places rules t) = length-map (defined_places rules t) (λ p. k ∷ p) in
        let whole = length-append (map (λ p. k ∷ p) (defined_places rules t)) (defined_places_of_all rules (k + 1) ts) in
        omega (arith, first, rest, mapped, whole)

  few_from : (k : ℕ) (rest : List RewriteRule) → length (placed_pairs_from rules k rest) ≤ nodes_of rest
  few_from k [] = omega arith
  few_from k (rule ∷ rest) =
      let first = few_places rule.right in
      let later = few_from (k + 1) rest in
      let mapped : length (placed_below k [] (defined_places rules rule.right)) ≡ length (defined_places rules rule.right) = length-map (defined_places rules rule.right) _ in
      let whole = length-append (placed_below k [] (defined_places rules rule.right)) (placed_pairs_from rules (k + 1) rest) in
      omega (arith, first, later, mapped, whole)

pub few_pairs : (rules : List RewriteRule) → length (placed_pairs rules) ≤ nodes_of rules
few_pairs rules = few_from rules 0 rules

next_number : {A : Type 0} (xs : List A) (k i : ℕ) → i < length xs → numbers_from k (drop i xs) ≡ k ∷ numbers_from (suc k) (drop (suc i) xs)
next_number [] k i h = absurd (omega arith)
next_number (x ∷ xs) k zero h = rw add-one refl
next_number (x ∷ xs) k (suc i) h = next_number xs k i (omega arith)

pub one_number_more : {A : Type 0} (xs : List A) (i : ℕ) (items new : List ℕ) → i < length xs → numbers_from 0 xs ≡ items ++ numbers_from i (drop i xs) → new ≡ items ++ i ∷ []
    → numbers_from 0 xs ≡ new ++ numbers_from (i + 1) (drop (i + 1) xs)
one_number_more xs i items new h before grown =
    let next : numbers_from i (drop i xs) ≡ i ∷ numbers_from (i + 1) (drop (i + 1) xs) = rw add-one (next_number xs i i h) in
    before ∙ (ap (λ l. items ++ l) next ∙ (sym (append_assoc items (i ∷ []) (numbers_from (i + 1) (drop (i + 1) xs))) ∙ ap (λ l. l ++ numbers_from (i + 1) (drop (i + 1) xs)) (sym grown)))

none_left : {A : Type 0} (xs : List A) (k i : ℕ) → length xs ≤ i → numbers_from k (drop i xs) ≡ []
none_left [] k zero h = refl
none_left [] k (suc i) h = refl
none_left (x ∷ xs) k zero h = absurd (omega arith)
none_left (x ∷ xs) k (suc i) h = none_left xs k i (omega arith)

same_numbers : {A B : Type 0} (k : ℕ) (xs : List A) (ys : List B) → length xs ≡ length ys → numbers_from k xs ≡ numbers_from k ys
same_numbers k [] [] e = refl
same_numbers k [] (y ∷ ys) e = absurd (omega (arith, e))
same_numbers k (x ∷ xs) [] e = absurd (omega (arith, e))
same_numbers k (x ∷ xs) (y ∷ ys) e = ap (λ ns. k ∷ ns) (same_numbers (k + 1) xs ys (omega (arith, e)))

pub all_numbers : {A B : Type 0} (xs : List A) (ys : List B) (i : ℕ) (items : List ℕ) → length xs ≡ length ys → length xs ≤ i
    → numbers_from 0 xs ≡ items ++ numbers_from i (drop i xs) → items ≡ numbers_from 0 ys
all_numbers xs ys i items e h whole =
    sym (whole ∙ (ap (λ l. items ++ l) (none_left xs i i h) ∙ append-nil items)) ∙ same_numbers 0 xs ys e

numbers_below : {A : Type 0} (xs : List A) (n : ℕ) → All (λ k. k < n + length xs) (numbers_from n xs)
numbers_below [] n k d within = absurd (omega (arith, within))
numbers_below (x ∷ xs) n zero d within = omega arith
numbers_below (x ∷ xs) n (suc k) d within = let rest = numbers_below xs (n + 1) k d (omega (arith, within)) in omega (arith, rest)

pub numbers_within : {A : Type 0} (xs : List A) (numbers : List ℕ) → numbers ≡ numbers_from 0 xs → All (λ k. k < length xs) numbers
numbers_within xs numbers e =
    subst (All (λ k. k < length xs)) (sym e) (λ k d within. let below = numbers_below xs 0 k d within in omega (arith, below))

pub all_of_numbers : {A : Type 0} (xs : List A) (numbers : List ℕ) → numbers ≡ numbers_from 0 xs → AreItemsOf xs numbers xs
all_of_numbers xs numbers e =
    ap (map (slice_get xs)) e ∙ numbered_all xs xs 0 (λ i x d. let same : i ≡ 0 + i = omega arith in subst (λ n. slice_get xs n ≡ Some x) same d)
