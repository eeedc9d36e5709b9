-- Instances: one substitution after another, steps under substitutions, and what two equal instances share.
use Rattle.std.specs.Prelude.{◌≡◌, ℕ, IsTrue, refl}
use Rattle.std.proofs.Common.{ap, ◌∙◌, inl, inr}
use Rattle.std.proofs.lemmas.Bool.{or_left, or_right, or_cases}
use Rattle.trs_defs.specs.Tree.{Tree, Trees, var, app, nil, cons}
use Rattle.trs_defs.specs.Variable.{has_var, some_has_var}
use Rattle.trs_defs.specs.Substitution.{apply, apply_all}
use Rattle.trs_defs.proofs.VariableLaws.{has_var_same, has_var_self}
use Rattle.trs_defs.specs.Step.{Inside, InsideOne, here, deep, first, later, RootStep, StepBy}

-- one substitution after another
mutual
  pub apply_apply : (s r : ℕ → Tree) (t : Tree) → apply s (apply r t) ≡ apply (λ v. apply s (r v)) t
  apply_apply s r (var n) = refl
  apply_apply s r (app f ts) = ap (app f) (apply_all_apply_all s r ts)

  pub apply_all_apply_all : (s r : ℕ → Tree) (ts : Trees) → apply_all s (apply_all r ts) ≡ apply_all (λ v. apply s (r v)) ts
  apply_all_apply_all s r nil = refl
  apply_all_apply_all s r (cons t ts) = cc (apply_apply s r t, apply_all_apply_all s r ts)

-- what R relates, it relates under each substitution
pub record IsClosedUnderSubstitutions (R : Tree → Tree → Type 0) : Type 0 where
  pub instance : (s : ℕ → Tree) (t u : Tree) → R t u → R (apply s t) (apply s u)

pub root_step_closed : (rule : Tree → Tree → Type 0) → IsClosedUnderSubstitutions (RootStep rule)
root_step_closed rule = record {
  instance = λ s t u h. (
    h.0,
    h.1,
    λ v. apply s (h.2 v),
    h.3,
    ap (apply s) h.4 ∙ apply_apply s h.2 h.0,
    ap (apply s) h.5 ∙ apply_apply s h.2 h.1,
  );
}

module _ (R : Tree → Tree → Type 0) (closed : IsClosedUnderSubstitutions R) where
  mutual
    inside_instance : {t u : Tree} (s : ℕ → Tree) → Inside R t u → Inside R (apply s t) (apply s u)
    inside_instance s (here {s = t} {t = u} step) = here (closed.instance s t u step)
    inside_instance s (deep one) = deep (inside_one_instance s one)

    inside_one_instance : {ts us : Trees} (s : ℕ → Tree) → InsideOne R ts us → InsideOne R (apply_all s ts) (apply_all s us)
    inside_one_instance s (first step) = first (inside_instance s step)
    inside_one_instance s (later one) = later (inside_one_instance s one)

  pub inside_closed : IsClosedUnderSubstitutions (Inside R)
  inside_closed = record { instance = λ s t u step. inside_instance s step }

-- steps of rules go on under substitutions
pub step_closed : (rule : Tree → Tree → Type 0) → IsClosedUnderSubstitutions (StepBy rule)
step_closed rule = inside_closed (RootStep rule) (root_step_closed rule)

mutual
  -- Where two instances are equal, the substitutions agree on the variables.
  pub same_values : (s r : ℕ → Tree) (t : Tree) (v : ℕ) → apply s t ≡ apply r t → IsTrue (has_var v t) → s v ≡ r v
  same_values s r (var n) v e h = rw (← has_var_same v n h) e
  same_values s r (app f ts) v e h = same_values_in_all s r ts v (cc) h

  pub same_values_in_all : (s r : ℕ → Tree) (ts : Trees) (v : ℕ) → apply_all s ts ≡ apply_all r ts → IsTrue (some_has_var v ts) → s v ≡ r v
  same_values_in_all s r nil v e h = absurd cc
  same_values_in_all s r (cons t ts) v e h = elim (or_cases (has_var v t) (some_has_var v ts) h) as (λ _. s v ≡ r v) [
    | inl k ↦ same_values s r t v (cc) k
    | inr k ↦ same_values_in_all s r ts v (cc) k
  ]

mutual
  -- Substitutions that agree on the variables of a term give it one instance.
  pub same_instance : (s r : ℕ → Tree) (t : Tree) → ((v : ℕ) → IsTrue (has_var v t) → s v ≡ r v) → apply s t ≡ apply r t
  same_instance s r (var n) h = h n (has_var_self n)
  same_instance s r (app f ts) h = ap (app f) (same_instances s r ts h)

  pub same_instances : (s r : ℕ → Tree) (ts : Trees) → ((v : ℕ) → IsTrue (some_has_var v ts) → s v ≡ r v) → apply_all s ts ≡ apply_all r ts
  same_instances s r nil h = refl
  same_instances s r (cons t ts) h = cc (
    same_instance s r t (λ v k. h v (or_left (has_var v t) (some_has_var v ts) k)),
    same_instances s r ts (λ v k. h v (or_right (has_var v t) (some_has_var v ts) k)),
  )
