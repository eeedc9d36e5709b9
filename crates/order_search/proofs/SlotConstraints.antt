-- A constraint by its number: those made of a list's items come first, and then one more.
use Rattle.std.specs.Prelude.{ℕ, ◌+◌, Bool, List, [], ◌∷◌, ◌++◌, length, map, Some, slice_get, ◌≡◌}
use Rattle.std.proofs.Common.{zero, suc, refl, ap, arith}
use Rattle.order_search.specs.Slots.{at_constraint}

module _ {A C : Type 0} (test : C → Bool) (made : A → C) where
  pub at_item : (xs : List A) (ds : List C) (c : ℕ) (x : A) → slice_get xs c ≡ Some x → at_constraint test (map made xs ++ ds) c ≡ test (made x)
  at_item [] ds c x e = absurd cc
  at_item (y ∷ xs) ds zero x e = let same : y ≡ x = cc in ap (λ z. test (made z)) same
  at_item (y ∷ xs) ds (suc c) x e = at_item xs ds c x e

  pub at_last : (xs : List A) (d : C) (c : ℕ) → c ≡ length xs → at_constraint test (map made xs ++ d ∷ []) c ≡ test d
  at_last [] d zero e = refl
  at_last [] d (suc c) e = absurd (omega (arith, e))
  at_last (y ∷ xs) d zero e = absurd (omega (arith, e))
  at_last (y ∷ xs) d (suc c) e = at_last xs d c (omega (arith, e))

pub one_more : {A C : Type 0} (made : A → C) (xs : List A) (d : C) → length (map made xs ++ d ∷ []) ≡ length xs + 1
one_more made [] d = omega arith
one_more made (x ∷ xs) d = let rest = one_more made xs d in omega (arith, rest)
