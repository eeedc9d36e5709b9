-- How the variables of a term are numbered behind others.
use Rattle.std.proofs.Common.{◌≡◌, ◌⊎◌, inl, inr, ℕ, suc, ◌<◌, Bool, true, false, Some, IsTrue, refl, sym, ap, subst, ◌∙◌, arith, eq-eqb}
use Rattle.std.proofs.lemmas.Bool.{eqb-true, lt-ltb, le-ltb, or_left, or_right, or_cases}
use Rattle.trs_defs.specs.Tree.{Tree, Trees, var, app, nil, cons}
use Rattle.trs_defs.specs.Variable.{has_var, some_has_var}
use Rattle.names_text.specs.Named.{next_number, next_number_behind}
use Rattle.names_text.proofs.NumberedTerms.{variable_parts, behind_parts}

-- ---- numbers below a bound

-- each variable of the term has a number below a bound
abbrev mutual
  pub IsBelow : ℕ → Tree → Type 0
  IsBelow b (var n) = n < b
  IsBelow b (app f ts) = AreBelow b ts

  pub AreBelow : ℕ → Trees → Type 0
  AreBelow b nil = Unit {0}
  AreBelow b (cons t ts) = IsBelow b t × AreBelow b ts

mutual
  pub below_from : (b : ℕ) (t : Tree) → ((v : ℕ) → IsTrue (has_var v t) → v < b) → IsBelow b t
  below_from b (var n) h = h n (eq-eqb n n refl)
  below_from b (app f ts) h = all_below_from b ts h

  all_below_from : (b : ℕ) (ts : Trees) → ((v : ℕ) → IsTrue (some_has_var v ts) → v < b) → AreBelow b ts
  all_below_from b nil h = tt
  all_below_from b (cons t ts) h =
      (below_from b t (λ v e. h v (or_left (has_var v t) (some_has_var v ts) e)), all_below_from b ts (λ v e. h v (or_right (has_var v t) (some_has_var v ts) e)))

mutual
  pub below_each : (b : ℕ) (t : Tree) → IsBelow b t → (v : ℕ) → IsTrue (has_var v t) → v < b
  below_each b (var n) h v e = let same : n ≡ v = eqb-true n v e in omega arith
  below_each b (app f ts) h v e = all_below_each b ts h v e

  all_below_each : (b : ℕ) (ts : Trees) → AreBelow b ts → (v : ℕ) → IsTrue (some_has_var v ts) → v < b
  all_below_each b nil h v e = absurd cc
  all_below_each b (cons t ts) h v e = elim (or_cases (has_var v t) (some_has_var v ts) e) as (λ _. v < b) [
    | inl here ↦ below_each b t h.0 v here
    | inr there ↦ all_below_each b ts h.1 v there
  ]

-- ---- numbers behind others

-- Behind so many variables, each is one of those that came before, or has the next number, if it may be new. How many
-- there are then.
abbrev mutual
  pub IsNumbered : Bool → ℕ → Tree → ℕ → Type 0
  IsNumbered new m (var n) r = ((n < m) × (m ≡ r)) ⊎ ((new ≡ true) × (n ≡ m) × (suc m ≡ r))
  IsNumbered new m (app f ts) r = AreNumbered new m ts r

  pub AreNumbered : Bool → ℕ → Trees → ℕ → Type 0
  AreNumbered new m nil r = m ≡ r
  AreNumbered new m (cons t ts) r = (j : ℕ) × IsNumbered new m t j × AreNumbered new j ts r

mutual
  pub next_numbered : (m : ℕ) (t : Tree) (r : ℕ) → next_number m t ≡ Some r → IsNumbered true m t r
  next_numbered m (var n) r e = elim (variable_parts m n r e) as (λ _. ((n < m) × (m ≡ r)) ⊎ ((true ≡ true) × (n ≡ m) × (suc m ≡ r))) [
    | inl h ↦ inl (h.0, sym h.1)
    | inr h ↦ inr (refl, h.0, sym h.1)
  ]
  next_numbered m (app f ts) r e = all_next_numbered m ts r e

  all_next_numbered : (m : ℕ) (ts : Trees) (r : ℕ) → next_number_behind m ts ≡ Some r → AreNumbered true m ts r
  all_next_numbered m nil r e = cc
  all_next_numbered m (cons t ts) r e =
      let parts = behind_parts m t ts r e in
      (parts.0, next_numbered m t parts.0 parts.1, all_next_numbered parts.0 ts r parts.2)

mutual
  pub numbered_next : (m : ℕ) (t : Tree) (r : ℕ) → IsNumbered true m t r → next_number m t ≡ Some r
  numbered_next m (var n) r (inl h) = rw (lt-ltb n m h.0) (ap Some h.1)
  numbered_next m (var n) r (inr h) =
      rw (le-ltb n m (let same = h.1 in omega arith), eq-eqb n m h.1) (ap Some h.2)
  numbered_next m (app f ts) r h = all_numbered_next m ts r h

  all_numbered_next : (m : ℕ) (ts : Trees) (r : ℕ) → AreNumbered true m ts r → next_number_behind m ts ≡ Some r
  all_numbered_next m nil r h = ap Some h
  all_numbered_next m (cons t ts) r h = rw (numbered_next m t h.0 h.1) (all_numbered_next h.0 ts r h.2)

mutual
  -- where no new variable may occur
  pub numbered_below : (m : ℕ) (t : Tree) (r : ℕ) → IsNumbered false m t r → IsBelow m t × (m ≡ r)
  numbered_below m (var n) r (inl h) = h
  numbered_below m (var n) r (inr h) = absurd (let none = h.0 in cc)
  numbered_below m (app f ts) r h = all_numbered_below m ts r h

  all_numbered_below : (m : ℕ) (ts : Trees) (r : ℕ) → AreNumbered false m ts r → AreBelow m ts × (m ≡ r)
  all_numbered_below m nil r h = (tt, h)
  all_numbered_below m (cons t ts) r h =
      let first = numbered_below m t h.0 h.1 in
      let rest = all_numbered_below h.0 ts r h.2 in
      let P : ℕ → Type 0 = λ n. AreBelow n ts in
      ((first.0, subst P (sym first.1) rest.0), first.1 ∙ rest.1)

mutual
  pub below_numbered : (m : ℕ) (t : Tree) → IsBelow m t → IsNumbered false m t m
  below_numbered m (var n) h = inl (h, refl)
  below_numbered m (app f ts) h = all_below_numbered m ts h

  all_below_numbered : (m : ℕ) (ts : Trees) → AreBelow m ts → AreNumbered false m ts m
  all_below_numbered m nil h = refl
  all_below_numbered m (cons t ts) h = (m, below_numbered m t h.0, all_below_numbered m ts h.1)
