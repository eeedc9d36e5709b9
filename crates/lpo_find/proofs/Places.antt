-- Places that a filter keeps.
use Rattle.std.specs.Prelude.{◌≡◌, ◌<◌, ◌≤◌, ℕ, ◌+◌, ◌-◌, Bool, true, false, ◌==◌, if◌then◌else◌, List, [], ◌∷◌, ◌++◌}
use Rattle.std.proofs.Common.{zero, suc, refl, sym, ap, arith, ◌∙◌, append_assoc}
use Rattle.std.proofs.lemmas.List.{append-nil}
use Rattle.std.proofs.lemmas.Bool.Decides.{nat_tests}
use Rattle.order_theory.specs.Keeping.{places_from}
use Rattle.lpo_find.specs.LpoSpace.{all_but}

other_test : (q p : ℕ) → p < q → (q == p) ≡ false
other_test q p h = grind (arith, nat_tests)

keep : (b : Bool) (x : ℕ) (xs ys : List ℕ) → b ≡ false → xs ≡ ys → (if b then xs else x ∷ xs) ≡ x ∷ ys
keep true x xs ys e same = absurd cc
keep false x xs ys e same = ap (λ l. x ∷ l) same

-- a place that is not there is not left out
pub none_left_out : (p q n : ℕ) → p < q → all_but p (places_from q n) ≡ places_from q n
none_left_out p q zero h = refl
none_left_out p q (suc n) h = keep (q == p) q _ _ (other_test q p h) (none_left_out p (suc q) n (omega (arith, h)))

one_or_none : (b : Bool) (x : ℕ) (xs : List ℕ) → (if b then xs else x ∷ xs) ≡ (if b then [] else x ∷ []) ++ xs
one_or_none true x xs = refl
one_or_none false x xs = refl

-- one place, and those behind it
pub next_place : (p q n : ℕ) → all_but p (places_from q (suc n)) ≡ all_but p (q ∷ []) ++ all_but p (places_from (suc q) n)
next_place p q n = one_or_none (q == p) q (all_but p (places_from (suc q) n))

-- the places up to number i stand in the list
abbrev pub StandsSoFar : ℕ → ℕ → ℕ → List ℕ → Type 0
StandsSoFar left_out arity i placed = all_but left_out (places_from 1 arity) ≡ placed ++ all_but left_out (places_from (i + 1) (arity - i))

pub one_place_more : (left_out arity i : ℕ) (old new : List ℕ) → i < arity → StandsSoFar left_out arity i old → new ≡ old ++ all_but left_out ((i + 1) ∷ [])
    → StandsSoFar left_out arity (i + 1) new
one_place_more left_out arity i old new below before grown =
    let left : arity - i ≡ suc (arity - (i + 1)) = omega (arith, below) in
    let behind : suc (i + 1) ≡ i + 1 + 1 = omega arith in
    let opened : all_but left_out (places_from (i + 1) (arity - i)) ≡ all_but left_out ((i + 1) ∷ []) ++ all_but left_out (places_from (i + 1 + 1) (arity - (i + 1))) =
    ap (λ (n : ℕ). all_but left_out (places_from (i + 1) n)) left ∙ (next_place left_out (i + 1) (arity - (i + 1))
    ∙ ap (λ (q : ℕ). all_but left_out ((i + 1) ∷ []) ++ all_but left_out (places_from q (arity - (i + 1)))) behind) in
    before ∙ (ap (λ (l : List ℕ). old ++ l) opened
    ∙ (sym (append_assoc old (all_but left_out ((i + 1) ∷ [])) (all_but left_out (places_from (i + 1 + 1) (arity - (i + 1)))))
    ∙ ap (λ (l : List ℕ). l ++ all_but left_out (places_from (i + 1 + 1) (arity - (i + 1)))) (sym grown)))

pub all_places : (left_out arity i : ℕ) (placed : List ℕ) → arity ≤ i → StandsSoFar left_out arity i placed → placed ≡ all_but left_out (places_from 1 arity)
all_places left_out arity i placed past before =
    let none : arity - i ≡ 0 = omega (arith, past) in
    sym (before ∙ (ap (λ (n : ℕ). placed ++ all_but left_out (places_from (i + 1) n)) none ∙ append-nil placed))
