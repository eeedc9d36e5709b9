-- The values of a solution, read as a table.
use Rattle.std.specs.Prelude.{◌≡◌, ◌<◌, ℕ, ◌+◌, Bool, true, false, ◌&&◌, ◌==◌, if◌then◌else◌, List, [], ◌∷◌, length, get_or, Some}
use Rattle.std.proofs.Common.{suc, refl, subst, arith}
use Rattle.assign_search.specs.Puzzle.{solution_of}
use Rattle.order_find.specs.order_search.Slots.{Slot, slot, Search, table_from, table_of, puzzle_of}
use Rattle.order_find.proofs.order_search.Solutions.{solved}

-- each value of a slot for this part is small
abbrev pub AreSmallAt : ℕ → ℕ → List Slot → (ℕ → ℕ) → Type 0
AreSmallAt part most slots value = (i : ℕ) → i < length slots → ((get_or slots i (slot 0 0)).part == part) ≡ true → value i < most

choose : (a b : Bool) (x y most : ℕ) → (b ≡ true → x < most) → y < most → (if a && b then x else y) < most
choose true true x y most here later = here refl
choose true false x y most here later = later
choose false b x y most here later = later

small_from : (slots : List Slot) (values : List ℕ) (k f part most : ℕ) → 0 < most → AreSmallAt part most slots (λ i. get_or values (k + i) 0)
    → table_from k slots values f part < most
small_from [] values k f part most positive small = positive
small_from (s ∷ slots) values k f part most positive small =
    choose (s.symbol == f) (s.part == part) _ _ most
    (λ e. let at : k + 0 ≡ k = omega arith in subst (λ (j : ℕ). get_or values j 0 < most) at (small 0 (omega arith) e))
    (small_from slots values (suc k) f part most positive
    (λ i below e. let at : k + suc i ≡ suc k + i = omega arith in subst (λ (j : ℕ). get_or values j 0 < most) at (small (suc i) (omega (arith, below)) e)))

-- where the slots for the part have few values
pub small_value : {C : Type 0} (sought : Search C) (values : List ℕ) (part most : ℕ) → solution_of (puzzle_of sought) ≡ Some values → 0 < most
    → ((s : Slot) → (s.part == part) ≡ true → sought.values s < most + 1) → (f : ℕ) → table_of sought.slots values f part < most
small_value sought values part most first positive few f =
    let s = solved (puzzle_of sought) values first in
    small_from sought.slots values 0 f part most positive
    (λ i below e.
    let full = s.full in
    let inside = s.inside i 0 (omega (arith, below, full)) in
    let domain = few (get_or sought.slots i (slot 0 0)) e in
    let at : i ≡ 0 + i = omega arith in
    subst (λ (j : ℕ). get_or values j 0 < most) at (omega (arith, inside, domain)))
