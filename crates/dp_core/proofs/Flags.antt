-- Flags of a list, and what is left of them when one is set.
use Rattle.std.specs.Prelude.{◌≡◌, ◌<◌, ◌≤◌, ℕ, ◌+◌, Bool, true, false, List, [], ◌∷◌, Some, length, drop, get_or, slice_get, slice_set, refl}
use Rattle.std.proofs.Common.{zero, suc, sym, subst, arith, add-one}
use Rattle.std.proofs.lemmas.List.{drop_all}
use Rattle.trs_defs.specs.Member.{In, in_first, in_rest}
use Rattle.dp_core.specs.Flags.{unset}

pub set_here : (flags : List Bool) (i : ℕ) (d : Bool) → i < length flags → get_or flags i d ≡ true → In true flags
set_here [] i d h e = absurd (omega arith)
set_here (b ∷ flags) zero d h e = subst (λ x. In true (x ∷ flags)) (sym e) in_first
set_here (b ∷ flags) (suc i) d h e = in_rest (set_here flags i d (omega arith) e)

past : (b : Bool) (flags : List Bool) → b ≡ false → In true (b ∷ flags) → In true flags
past true flags e h = absurd cc
past false flags e (in_rest h) = h

not_here : (flags : List Bool) (i : ℕ) (d : Bool) → i < length flags → get_or flags i d ≡ false → In true (drop i flags) → In true (drop (suc i) flags)
not_here [] i d h e m = absurd (omega arith)
not_here (b ∷ flags) zero d h e m = past b flags e m
not_here (b ∷ flags) (suc i) d h e m = not_here flags i d (omega arith) e m

pub not_set_here : (flags : List Bool) (i : ℕ) (d : Bool) → i < length flags → get_or flags i d ≡ false → In true (drop i flags) → In true (drop (i + 1) flags)
not_set_here flags i d h e m = rw add-one (not_here flags i d h e m)

in_none : (flags : List Bool) → flags ≡ [] → In true flags → ⊥
in_none [] e h = elim h [ ]
in_none (b ∷ flags) e h = absurd cc

pub none_set : (flags : List Bool) (i : ℕ) → length flags ≤ i → In true (drop i flags) → ⊥
none_set flags i h m = in_none (drop i flags) (drop_all i flags h) m

-- ---- a list with one flag set

pub unset_set : (flags : List Bool) (k : ℕ) → slice_get flags k ≡ Some false → unset (slice_set flags k true) + 1 ≡ unset flags
unset_set [] k e = absurd cc
unset_set (true ∷ flags) zero e = absurd cc
unset_set (false ∷ flags) zero e = refl
unset_set (true ∷ flags) (suc k) e = unset_set flags k e
unset_set (false ∷ flags) (suc k) e = let h = unset_set flags k e in omega (arith, h)

pub set_kept : (flags : List Bool) (k j : ℕ) → slice_get flags j ≡ Some true → slice_get (slice_set flags k true) j ≡ Some true
set_kept [] k j e = absurd cc
set_kept (b ∷ flags) zero zero e = refl
set_kept (b ∷ flags) zero (suc j) e = e
set_kept (b ∷ flags) (suc k) zero e = e
set_kept (b ∷ flags) (suc k) (suc j) e = set_kept flags k j e
