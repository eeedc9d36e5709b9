-- The first place of a list at which a test passes, from its head and the places behind.
use Rattle.std.proofs.Common.{◌≡◌, ℕ, suc, ◌+◌, Bool, true, false, cond, List, [], ◌∷◌, Option, Some, option_map, refl, ap, sym, ◌∙◌, add-one}
use Rattle.std.specs.List.{position, position_from}
use Rattle.std.proofs.lemmas.Iterator.Adapters.{position_from-zero}

module _ {K : Type 0} (test : K → Bool) where
  next_behind : (b : Bool) (i : ℕ) (o p : Option ℕ) → o ≡ option_map suc p → cond b (Some (i + 1)) o ≡ option_map suc (cond b (Some i) p)
  next_behind true i o p e = rw add-one refl
  next_behind false i o p e = e

  position_later : (xs : List K) (i : ℕ) → position_from test (i + 1) xs ≡ option_map suc (position_from test i xs)
  position_later [] i = refl
  position_later (x ∷ xs) i = next_behind (test x) i _ _ (position_later xs (i + 1))

  pub position_next : (x : K) (xs : List K) → position test (x ∷ xs) ≡ cond (test x) (Some 0) (option_map suc (position test xs))
  position_next x xs =
      position_from-zero test (x ∷ xs) ∙ ap (λ o. cond (test x) (Some 0) o) (position_later xs 0 ∙ ap (option_map suc) (sym (position_from-zero test xs)))
