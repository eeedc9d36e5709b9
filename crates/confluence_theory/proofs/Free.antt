-- Terms in which a variable does not occur, and terms in which none occurs twice.
use Rattle.std.specs.Prelude.{◌≡◌, ◌≤◌, ℕ, ◌+◌, Bool, true, false, ◌==◌, if◌then◌else◌, ◌⊎◌, IsTrue}
use Rattle.std.proofs.Common.{arith, inl, inr, zero}
use Rattle.std.proofs.lemmas.Bool.Decides.{nat_tests}
use native.Mathlib.Decide.{ℕ_discrete}
use Rattle.trs_defs.specs.Tree.{Tree, Trees, var, app, nil, cons}
use Rattle.trs_defs.specs.Variable.{occurrences, occurrences_in_all, IsLinear}

-- x does not occur
abbrev mutual
  pub IsFree : ℕ → Tree → Type 0
  IsFree x (var y) = ¬ (x ≡ y)
  IsFree x (app f ts) = AreFree x ts

  pub AreFree : ℕ → Trees → Type 0
  AreFree x nil = Unit {0}
  AreFree x (cons t ts) = IsFree x t × AreFree x ts

-- no variable occurs in two arguments
abbrev mutual
  pub IsSeparate : Tree → Type 0
  IsSeparate (var y) = Unit {0}
  IsSeparate (app f ts) = AreSeparate ts

  pub AreSeparate : Trees → Type 0
  AreSeparate nil = Unit {0}
  AreSeparate (cons t ts) = IsSeparate t × AreSeparate ts × ((x : ℕ) → IsFree x t ⊎ AreFree x ts)

abbrev counted : Bool → ℕ
counted b = if b then 1 else 0

not_counted : (b : Bool) → counted b ≡ zero → IsTrue b → ⊥
not_counted true e h = omega arith
not_counted false e h = absurd cc

counted_once : (x y : ℕ) → counted (y == x) ≡ zero → ¬ (x ≡ y)
counted_once x y e h = not_counted (y == x) e (grind (arith, nat_tests))

mutual
  pub uncounted_free : (x : ℕ) (t : Tree) → occurrences x t ≡ zero → IsFree x t
  uncounted_free x (var y) e = counted_once x y e
  uncounted_free x (app f ts) e = uncounted_all_free x ts e

  pub uncounted_all_free : (x : ℕ) (ts : Trees) → occurrences_in_all x ts ≡ zero → AreFree x ts
  uncounted_all_free x nil e = tt
  uncounted_all_free x (cons t ts) e = (uncounted_free x t (omega arith), uncounted_all_free x ts (omega arith))

one_is_free : (x : ℕ) (t : Tree) (ts : Trees) → occurrences x t + occurrences_in_all x ts ≤ 1 → IsFree x t ⊎ AreFree x ts
one_is_free x t ts h =
    elim (ℕ_discrete (occurrences x t) zero) [
      | yes e ↦ inl (uncounted_free x t e)
      | no e ↦ inr (uncounted_all_free x ts (omega arith))
    ]

-- a linear term is one in which no variable occurs in two arguments
mutual
  pub separate_linear : (t : Tree) → IsLinear t → IsSeparate t
  separate_linear (var y) h = tt
  separate_linear (app f ts) h = separate_all_linear ts h

  pub separate_all_linear : (ts : Trees) → ((x : ℕ) → occurrences_in_all x ts ≤ 1) → AreSeparate ts
  separate_all_linear nil h = tt
  separate_all_linear (cons t ts) h = (
    separate_linear t (λ x. let k = h x in omega arith),
    separate_all_linear ts (λ x. let k = h x in omega arith),
    λ x. one_is_free x t ts (h x),
  )
