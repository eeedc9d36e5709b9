-- A property of each variable of a term, from its arguments.
use Rattle.std.proofs.Common.{◌≡◌, ℕ, ◌+◌, ◌<◌, ◌↔◌, inl, inr, false, IsTrue, List, length, drop, get_or, sym, subst}
use Rattle.trs_defs.specs.Tree.{Tree, Trees, var, app, cons}
use Rattle.trs_defs.specs.Variable.{has_var, some_has_var}
use Rattle.trs_defs.proofs.ArgumentLists.{cell}
use Rattle.trs_defs.proofs.VariableLaws.{has_var_same, has_var_self, has_var_cons, has_var_first, has_var_rest}
use Rattle.trs_core.specs.declared.terms.Term.{Term}
use Rattle.trs_core.specs.View.{tree, forest}

abbrev pub EachIn : (ℕ → Type 0) → Tree → Type 0
EachIn P t = (v : ℕ) → IsTrue (has_var v t) → P v

abbrev pub EachAmong : (ℕ → Type 0) → Trees → Type 0
EachAmong P ts = (v : ℕ) → IsTrue (some_has_var v ts) → P v

module _ (P : ℕ → Type 0) where
  pub one_variable : (n : ℕ) (t : Tree) → t ≡ var n → P n ↔ EachIn P t
  one_variable n t is = (
    λ h v e. subst P (has_var_same v n (subst (λ u. IsTrue (has_var v u)) is e)) h,
    λ h. h n (subst (λ u. IsTrue (has_var n u)) (sym is) (has_var_self n)),
  )

  pub each_argument : (f : ℕ) (ts args : Trees) (t : Tree) → ts ≡ args → t ≡ app f args → EachAmong P ts ↔ EachIn P t
  each_argument f ts args t listed is = rw (is, ← listed) (λ h. h, λ h. h)

  each_cons : (t : Tree) (ts : Trees) → EachIn P t → EachAmong P ts → EachAmong P (cons t ts)
  each_cons t ts first rest v h = elim (has_var_cons v t ts h) as (λ _. P v) [
    | inl e ↦ first v e
    | inr e ↦ rest v e
  ]

  from_next : (ts : List Term) (i : ℕ) (t : Term) (whole : Tree) → i < length ts → t ≡ get_or ts i t
      → EachAmong P (forest (drop i ts)) ↔ EachIn P whole → EachAmong P (cons (tree t) (forest (drop (i + 1) ts))) ↔ EachIn P whole
  from_next ts i t whole h e k = subst (λ us. EachAmong P (forest us) ↔ EachIn P whole) (cell ts i t h e) k

  pub next_argument : (ts : List Term) (i : ℕ) (t : Term) (whole : Tree) → i < length ts → t ≡ get_or ts i t → EachIn P (tree t)
      → EachAmong P (forest (drop i ts)) ↔ EachIn P whole → EachAmong P (forest (drop (i + 1) ts)) ↔ EachIn P whole
  next_argument ts i t whole h e one k =
      let same = from_next ts i t whole h e k in
      let rest = forest (drop (i + 1) ts) in
      (λ all. same.0 (each_cons (tree t) rest one all), λ all v is. same.1 all v (has_var_rest v (tree t) rest is))

  pub not_each : (ts : List Term) (i : ℕ) (t : Term) (whole : Tree) → i < length ts → t ≡ get_or ts i t → (EachIn P (tree t) → ⊥)
      → EachAmong P (forest (drop i ts)) ↔ EachIn P whole → IsTrue false ↔ EachIn P whole
  not_each ts i t whole h e none k =
      let same = from_next ts i t whole h e k in
      (λ no. absurd cc, λ all. absurd (none (λ v is. same.1 all v (has_var_first v (tree t) (forest (drop (i + 1) ts)) is))))
