-- Which pairs stay, by the flags that their checks give.
use Rattle.std.specs.Prelude.{◌≡◌, ◌<◌, ℕ, ◌+◌, ◌⊎◌, Bool, true, false, List, [], ◌∷◌, length, map, zip, All, Some, Ok, slice_get}
use Rattle.std.specs.List.{AllPairs}
use Rattle.std.proofs.Common.{zero, suc, inl, inr, refl, sym, ap, subst, arith, ◌∙◌}
use Rattle.std.proofs.lemmas.List.Kept.{AllPairs-cons, AllPairs-from_increasing}
use Rattle.trs_defs.specs.Member.{In, in_first, in_rest}
use Rattle.trs_defs.proofs.Members.{in_or, no_in}
use Rattle.pair_theory.specs.DependencyPair.{DependencyPair}
use Rattle.rewrite_core.specs.Check.{Check, goes_on, returned, collect}
use Rattle.dp_core.specs.Numbered.{ArePairsOf}
use Rattle.dp_core.specs.SubtermConditions.{unflagged}
use Rattle.dp_core.specs.Laws.{Remain}

in_same : {A : Type 0} (x y : A) (xs : List A) → x ≡ y → In x (y ∷ xs)
in_same x y xs e = subst (λ z. In x (z ∷ xs)) e in_first

stays_first : (p q : DependencyPair) (pairs : List DependencyPair) (flag : Bool) (flags : List Bool) → flag ≡ false → p ≡ q → In p (unflagged (q ∷ pairs) (flag ∷ flags))
stays_first p q pairs true flags e same = absurd cc
stays_first p q pairs false flags e same = in_same p q (unflagged pairs flags) same

stays_later : (p q : DependencyPair) (pairs : List DependencyPair) (flag : Bool) (flags : List Bool) → In p (unflagged pairs flags) → In p (unflagged (q ∷ pairs) (flag ∷ flags))
stays_later p q pairs true flags h = h
stays_later p q pairs false flags h = in_rest h

-- a pair at which the flag is false stays by one fact, and the other ones go by another
module _ (check : ℕ → DependencyPair → Check Bool) (stays_by goes_by : DependencyPair → Type 0)
    (one : (n : ℕ) (p : DependencyPair) (flag : Bool) → check n p (Ok flag) → ((flag ≡ false) × stays_by p) ⊎ goes_by p) where
  pub each_stays_or_goes : (k : ℕ) (numbers : List ℕ) (pairs : List DependencyPair) (flags : List Bool) → length pairs ≡ length numbers
      → collect (λ _ item. check item.0 item.1) k (zip numbers pairs) (Ok flags) → (p : DependencyPair) → In p pairs
      → (In p (unflagged pairs flags) × stays_by p) ⊎ goes_by p
  each_stays_or_goes k numbers [] flags e h p i = absurd (no_in i)
  each_stays_or_goes k [] (q ∷ pairs) flags e h p i = absurd (omega (arith, e))
  each_stays_or_goes k (n ∷ numbers) (q ∷ pairs) _ e (goes_on flag _ h (goes_on flags _ rest returned)) p i = elim (in_or i) [
    | inl same ↦ elim (one n q flag h) [
      | inl w ↦ inl (stays_first p q pairs flag flags w.0 same, subst stays_by (sym same) w.1)
      | inr goes ↦ inr (subst goes_by (sym same) goes)
    ]
    | inr j ↦ elim (each_stays_or_goes (k + 1) numbers pairs flags (omega (arith, e)) rest p j) [
      | inl w ↦ inl (stays_later p q pairs flag flags w.0, w.1)
      | inr goes ↦ inr goes
    ]
  ]

map_unflagged : {A B : Type 0} (f : A → B) (xs : List A) (flags : List Bool) → map f (unflagged xs flags) ≡ unflagged (map f xs) flags
map_unflagged f [] flags = refl
map_unflagged f (x ∷ xs) [] = refl
map_unflagged f (x ∷ xs) (true ∷ flags) = map_unflagged f xs flags
map_unflagged f (x ∷ xs) (false ∷ flags) = ap (λ ys. f x ∷ ys) (map_unflagged f xs flags)

-- the pairs that stay have the numbers that stay
pub pairs_left : (all : List DependencyPair) (numbers : List ℕ) (pairs : List DependencyPair) (flags : List Bool) → ArePairsOf all numbers pairs
    → ArePairsOf all (unflagged numbers flags) (unflagged pairs flags)
pairs_left all numbers pairs flags are =
    map_unflagged (slice_get all) numbers flags ∙ (ap (λ xs. unflagged xs flags) are ∙ sym (map_unflagged (λ p. Some p) pairs flags))

-- ---- the numbers that stay

all_cons : (P : ℕ → Type 0) (x : ℕ) (xs : List ℕ) → P x → All P xs → All P (x ∷ xs)
all_cons P x xs first rest zero d within = first
all_cons P x xs first rest (suc k) d within = rest k d (omega (arith, within))

all_unflagged : (P : ℕ → Type 0) (xs : List ℕ) (flags : List Bool) → All P xs → All P (unflagged xs flags)
all_unflagged P [] flags h = h
all_unflagged P (x ∷ xs) [] h = λ k d within. absurd (omega (arith, within))
all_unflagged P (x ∷ xs) (true ∷ flags) h = all_unflagged P xs flags (λ k d within. h (suc k) d (omega (arith, within)))
all_unflagged P (x ∷ xs) (false ∷ flags) h =
    all_cons P x (unflagged xs flags) (h zero x (omega arith)) (all_unflagged P xs flags (λ k d within. h (suc k) d (omega (arith, within))))

ascending_unflagged : (xs : List ℕ) (flags : List Bool) → AllPairs (λ x y. x < y) xs → AllPairs (λ x y. x < y) (unflagged xs flags)
ascending_unflagged [] flags h = h
ascending_unflagged (x ∷ xs) [] h = λ i j d lt within. absurd (omega (arith, within))
ascending_unflagged (x ∷ xs) (true ∷ flags) h =
    ascending_unflagged xs flags (λ i j d lt within. h (suc i) (suc j) d (omega (arith, lt)) (omega (arith, within)))
ascending_unflagged (x ∷ xs) (false ∷ flags) h =
    let rest = ascending_unflagged xs flags (λ i j d lt within. h (suc i) (suc j) d (omega (arith, lt)) (omega (arith, within))) in
    let above : All (λ y. x < y) xs = λ k d within. h zero (suc k) d (omega arith) (omega (arith, within)) in
    AllPairs-cons (λ a b. a < b) x (unflagged xs flags) (all_unflagged (λ y. x < y) xs flags above) rest

pub numbers_remain : (numbers : List ℕ) (flags : List Bool) → Remain numbers (unflagged numbers flags)
numbers_remain numbers flags = record {
  ascending = λ up k within. ascending_unflagged numbers flags (AllPairs-from_increasing numbers up) k (k + 1) 0 (omega arith) within;
  below = λ most h. all_unflagged (λ n. n < most) numbers flags h;
}
