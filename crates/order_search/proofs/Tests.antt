-- Tests of numbers, and tests that tell the same.
use Rattle.std.specs.Prelude.{◌≡◌, ◌≤◌, ◌<◌, ◌⊎◌, ℕ, Bool, true, false, ◌||◌, ◌==◌, nat_lt, nat_le}
use Rattle.std.proofs.Common.{inl, inr, refl, sym, arith}
use Rattle.std.proofs.lemmas.Bool.Decides.{nat_tests}

pub self_test : (n : ℕ) → (n == n) ≡ true
self_test n = grind (arith, nat_tests)

pub other_test : (g f : ℕ) → (f ≡ g → ⊥) → (g == f) ≡ false
other_test g f h = grind (arith, nat_tests)

pub same_number : (g f : ℕ) → (g == f) ≡ true → g ≡ f
same_number g f e = grind (arith, nat_tests)

pub le_is : (a b : ℕ) → nat_le a b ≡ true → a ≤ b
le_is a b e = grind (arith, nat_tests)

pub is_le : (a b : ℕ) → a ≤ b → nat_le a b ≡ true
is_le a b e = grind (arith, nat_tests)

pub lt_is : (a b : ℕ) → nat_lt a b ≡ true → a < b
lt_is a b e = grind (arith, nat_tests)

pub is_lt : (a b : ℕ) → a < b → nat_lt a b ≡ true
is_lt a b e = grind (arith, nat_tests)

pub either : (a b : Bool) → (a || b) ≡ true → (a ≡ true) ⊎ (b ≡ true)
either true b e = inl refl
either false b e = inr e

pub same_both : (a b : Bool) → (a ≡ true → b ≡ true) → (b ≡ true → a ≡ true) → a ≡ b
same_both true b to from = sym (to refl)
same_both false true to from = from refl
same_both false false to from = refl

pub never_true : (b : Bool) → (b ≡ true → ⊥) → false ≡ b
never_true true h = absurd (h refl)
never_true false h = refl
