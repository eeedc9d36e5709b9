-- Subterms: of subterms, of instances, and variables that stand in a term.
use Rattle.std.proofs.Common.{◌≡◌, ℕ, refl, sym, subst, ◌⊎◌, inl, inr, IsTrue}
use Rattle.trs_defs.specs.Tree.{Tree, Trees, var, app, nil, cons}
use Rattle.trs_defs.specs.Substitution.{apply, apply_all}
use Rattle.trs_defs.specs.Variable.{has_var, some_has_var}
use Rattle.trs_defs.specs.Every.{Every, every_nil, every_cons}
use Rattle.pair_theory.specs.Subterm.{Sub, itself, under, Subs, in_head, in_tail}
use Rattle.trs_defs.proofs.VariableLaws.{has_var_same, has_var_self, has_var_cons, has_var_first, has_var_rest}

pub every_map : {P Q : Tree → Type 0} → ((t : Tree) → P t → Q t) → {ts : Trees} → Every P ts → Every Q ts
every_map f every_nil = every_nil
every_map f (every_cons {t = t} p ps) = every_cons (f t p) (every_map f ps)

pub every_tail : {P : Tree → Type 0} {t : Tree} {ts : Trees} → Every P (cons t ts) → Every P ts
every_tail (every_cons h hs) = hs

pub not_in_nil : {s : Tree} → Subs s nil → ⊥
not_in_nil p = elim p [ ]

pub head_or_tail : {s t : Tree} {ts : Trees} → Subs s (cons t ts) → Sub s t ⊎ Subs s ts
head_or_tail (in_head p) = inl p
head_or_tail (in_tail p) = inr p

pub var_in_var : {x y : ℕ} → Sub (var x) (var y) → x ≡ y
var_in_var itself = refl

-- a variable of a term that is none is in its arguments
pub below_root : {x f : ℕ} {ts : Trees} → Sub (var x) (app f ts) → Subs (var x) ts
below_root (under p) = p

mutual
  pub sub_trans : {a b c : Tree} → Sub a b → Sub b c → Sub a c
  sub_trans p itself = p
  sub_trans p (under q) = under (subs_trans p q)

  pub subs_trans : {a b : Tree} {cs : Trees} → Sub a b → Subs b cs → Subs a cs
  subs_trans p (in_head q) = in_head (sub_trans p q)
  subs_trans p (in_tail q) = in_tail (subs_trans p q)

each_in : (ts : Trees) → Every (λ u. Subs u ts) ts
each_in nil = every_nil
each_in (cons t ts) = every_cons (in_head itself) (every_map (λ u p. in_tail p) (each_in ts))

-- each argument of a subterm is a subterm
pub args_sub : {g : ℕ} {us : Trees} {r : Tree} → Sub (app g us) r → Every (λ u. Sub u r) us
args_sub {us = us} h = every_map (λ u p. sub_trans (under p) h) (each_in us)

mutual
  pub sub_apply : (σ : ℕ → Tree) {s t : Tree} → Sub s t → Sub (apply σ s) (apply σ t)
  sub_apply σ itself = itself
  sub_apply σ (under p) = under (subs_apply σ p)

  pub subs_apply : (σ : ℕ → Tree) {s : Tree} {ts : Trees} → Subs s ts → Subs (apply σ s) (apply_all σ ts)
  subs_apply σ (in_head p) = in_head (sub_apply σ p)
  subs_apply σ (in_tail p) = in_tail (subs_apply σ p)

-- a variable occurs where it is a subterm
mutual
  pub sub_of_has : (x : ℕ) (t : Tree) → IsTrue (has_var x t) → Sub (var x) t
  sub_of_has x (var y) h = subst (λ z. Sub (var x) (var z)) (sym (has_var_same x y h)) itself
  sub_of_has x (app f ts) h = under (subs_of_has x ts h)

  pub subs_of_has : (x : ℕ) (ts : Trees) → IsTrue (some_has_var x ts) → Subs (var x) ts
  subs_of_has x nil h = absurd cc
  subs_of_has x (cons t ts) h = elim (has_var_cons x t ts h) [ inl k ↦ in_head (sub_of_has x t k) | inr k ↦ in_tail (subs_of_has x ts k) ]

mutual
  pub has_of_sub : (x : ℕ) (t : Tree) → Sub (var x) t → IsTrue (has_var x t)
  has_of_sub x (var y) p = subst (λ z. IsTrue (has_var x (var z))) (var_in_var p) (has_var_self x)
  has_of_sub x (app f ts) p = has_of_subs x ts (below_root p)

  pub has_of_subs : (x : ℕ) (ts : Trees) → Subs (var x) ts → IsTrue (some_has_var x ts)
  has_of_subs x nil p = absurd (not_in_nil p)
  has_of_subs x (cons t ts) p =
      elim (head_or_tail p) [ inl q ↦ has_var_first x t ts (has_of_sub x t q) | inr q ↦ has_var_rest x t ts (has_of_subs x ts q) ]
