-- Finite maps of bindings, and the substitutions that have them.
use Rattle.std.proofs.Common.{◌≡◌, ℕ, ◌⊎◌, inl, inr, Bool, true, false, cond, Some, None, refl, ap, sym, ◌∙◌, nat_cmp}
use Rattle.std.specs.declared.cmp.Ordering.{Ordering}
use Rattle.std.specs.declared.cmp.Ordering.TheVariants.{Less, Equal, Greater}
use Rattle.std.specs.Ordering.{eq_by_cmp, is_eq}
use Rattle.std.specs.Cmp.{nat_cmp_total, eq_by_cmp_equiv}
use Rattle.std.specs.FinMap.{FinMap, insert, get, empty, get-insert, get-empty, nat_cmp-IsAntisymmetric}
use Rattle.trs_defs.specs.Tree.{Tree}
use Rattle.trs_defs.specs.Substitution.{Agrees, bound}

equal_numbers : (w v : ℕ) (o : Ordering) → nat_cmp w v ≡ o → is_eq o ≡ true → w ≡ v
equal_numbers w v Less e h = absurd cc
equal_numbers w v Equal e h = nat_cmp-IsAntisymmetric w v e
equal_numbers w v Greater e h = absurd cc

pub get_insert_same : (m : FinMap nat_cmp Tree) (v : ℕ) (t : Tree) → get (insert m v t) v ≡ Some t
get_insert_same m v t =
    get-insert nat_cmp_total m v t v ∙ ap (λ b. cond b (Some t) (get m v)) ((eq_by_cmp_equiv nat_cmp_total).refl v)

-- an entry after a binding is added: the new one, or an older one
pub get_insert_cases : (m : FinMap nat_cmp Tree) (v w : ℕ) (t u : Tree) → get (insert m v t) w ≡ Some u
    → ((w ≡ v) × (t ≡ u)) ⊎ (get m w ≡ Some u)
get_insert_cases m v w t u e = go (eq_by_cmp nat_cmp w v) refl (sym (get-insert nat_cmp_total m v t w) ∙ e)
  where
    go : (b : Bool) → eq_by_cmp nat_cmp w v ≡ b → cond b (Some t) (get m w) ≡ Some u → ((w ≡ v) × (t ≡ u)) ⊎ (get m w ≡ Some u)
    go true is h = inl (equal_numbers w v (nat_cmp w v) refl is, cc)
    go false is h = inr h

-- a binding of a variable that had none leaves the others as they were
pub get_insert_older : (m : FinMap nat_cmp Tree) (v w : ℕ) (t u : Tree) → get m v ≡ None → get m w ≡ Some u
    → get (insert m v t) w ≡ Some u
get_insert_older m v w t u none e = get-insert nat_cmp_total m v t w ∙ go (eq_by_cmp nat_cmp w v) refl
  where
    go : (b : Bool) → eq_by_cmp nat_cmp w v ≡ b → cond b (Some t) (get m w) ≡ Some u
    go true is = let same : w ≡ v = equal_numbers w v (nat_cmp w v) refl is in absurd cc
    go false is = e

-- each substitution has the bindings of the empty map
pub agrees_empty : (m : FinMap nat_cmp Tree) (s : ℕ → Tree) → m ≡ empty → Agrees m s
agrees_empty m s is v t e = let none : get m v ≡ None = rw is (get-empty nat_cmp v) in absurd cc

-- the substitution of a map has its bindings
pub agrees_bound : (m : FinMap nat_cmp Tree) → Agrees m (bound m)
agrees_bound m v t e = rw e refl
