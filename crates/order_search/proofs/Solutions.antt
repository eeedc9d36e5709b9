-- What a first solution says: each slot has a value in its domain, and each constraint is true.
use Rattle.std.specs.Prelude.{ℕ, ◌+◌, ◌<◌, true, false, not, eqb, List, [], ◌∷◌, length, get_or, Some, ◌≡◌}
use Rattle.std.proofs.Common.{zero, suc, subst, arith}
use Rattle.std.proofs.lemmas.Bool.Decides.{nat_tests}
use Rattle.assign_search.specs.Puzzle.{Puzzle, any_below, is_solution, solution_of}
use Rattle.assign_search.proofs.Refuting.{and_true, not_true, not_false, any_below_each}
use Rattle.assign_search.proofs.Laws.{found_solves, InDomainFrom}

same_length : (m n : ℕ) → eqb m n ≡ true → m ≡ n
same_length m n e = grind (arith, nat_tests)

pub record Solves (z : Puzzle) (p : List ℕ) : Type 0 where
  pub full : length p ≡ z.slots
  pub inside : (s d : ℕ) → s < length p → get_or p s d < z.domain s
  pub meets : (c : ℕ) → c < z.constraints → z.truth c p ≡ true

meets_of : (z : Puzzle) (p : List ℕ) → is_solution z p ≡ true → (length p ≡ z.slots) × ((c : ℕ) → c < z.constraints → z.truth c p ≡ true)
unfolding is_solution
meets_of z p e =
    let both = and_true (eqb (length p) z.slots) (not (any_below (λ c. not (z.truth c p)) z.constraints)) e in
    let none : any_below (λ c. not (z.truth c p)) z.constraints ≡ false = not_true _ both.1 in
    (same_length (length p) z.slots both.0, λ c below. not_false (z.truth c p) (any_below_each (λ c. not (z.truth c p)) z.constraints c none below))

inside_from : (z : Puzzle) (p : List ℕ) (n s d : ℕ) → InDomainFrom z n p → s < length p → get_or p s d < z.domain (n + s)
inside_from z [] n s d h below = absurd (omega (arith, below))
inside_from z (v ∷ p) n zero d h below = let at : n ≡ n + 0 = omega arith in subst (λ (i : ℕ). v < z.domain i) at h.0
inside_from z (v ∷ p) n (suc s) d h below =
    let at : suc n + s ≡ n + suc s = omega arith in
    subst (λ (i : ℕ). get_or p s d < z.domain i) at (inside_from z p (suc n) s d h.1 (omega (arith, below)))

pub solved : (z : Puzzle) (p : List ℕ) → solution_of z ≡ Some p → Solves z p
solved z p e =
    let f = found_solves z p e in
    let m = meets_of z p f.0 in
    record {
      full = m.0;
      inside = λ s d below. let at : 0 + s ≡ s = omega arith in subst (λ (i : ℕ). get_or p s d < z.domain i) at (inside_from z p 0 s d f.2 below);
      meets = m.1;
    }
