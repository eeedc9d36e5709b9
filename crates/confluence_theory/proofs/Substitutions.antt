-- Substitutions that differ at one variable, and what terms have of them.
use Rattle.std.proofs.Common.{ℕ, ◌≡◌, ◌⊎◌, inl, inr, refl, ◌∙◌, ap}
use native.Mathlib.Decide.{ℕ_discrete}
use Rattle.confluence_theory.proofs.Free.{IsFree, AreFree}
use Rattle.trs_defs.specs.Substitution.{apply, apply_all}
use Rattle.trs_defs.specs.Tree.{Tree, Trees, var, app, nil, cons}

-- σ with y for x
abbrev pub but : (ℕ → Tree) → ℕ → Tree → ℕ → Tree
but σ x y z = elim (ℕ_discrete x z) [ yes e ↦ y | no e ↦ σ z ]

pub but_at : (σ : ℕ → Tree) (x : ℕ) (y : Tree) → but σ x y x ≡ y
but_at σ x y = elim (ℕ_discrete x x) as (λ d. elim d [ yes e ↦ y | no e ↦ σ x ] ≡ y) [ yes e ↦ refl | no e ↦ absurd (e refl) ]

pub but_free : (σ : ℕ → Tree) (x z : ℕ) (y : Tree) → ¬ (x ≡ z) → but σ x y z ≡ σ z
but_free σ x z y h = elim (ℕ_discrete x z) as (λ d. elim d [ yes e ↦ y | no e ↦ σ z ] ≡ σ z) [ yes e ↦ absurd (h e) | no e ↦ refl ]

mutual
  pub apply_free : (σ : ℕ → Tree) (x : ℕ) (y : Tree) (t : Tree) → IsFree x t → apply (but σ x y) t ≡ apply σ t
  apply_free σ x y (var z) h = but_free σ x z y h
  apply_free σ x y (app f ts) h = ap (λ us. app f us) (apply_all_free σ x y ts h)

  pub apply_all_free : (σ : ℕ → Tree) (x : ℕ) (y : Tree) (ts : Trees) → AreFree x ts → apply_all (but σ x y) ts ≡ apply_all σ ts
  apply_all_free σ x y nil h = refl
  apply_all_free σ x y (cons t ts) h =
      ap (λ u. cons u (apply_all (but σ x y) ts)) (apply_free σ x y t h.0) ∙ ap (λ us. cons (apply σ t) us) (apply_all_free σ x y ts h.1)

drop_first : {A B E : Type 0} → (A × B) ⊎ E → B ⊎ E
drop_first (inl p) = inl p.1
drop_first (inr e) = inr e

drop_second : {A B E : Type 0} → (A × B) ⊎ E → A ⊎ E
drop_second (inl p) = inl p.0
drop_second (inr e) = inr e

mutual
  pub instance_eq : (σ τ : ℕ → Tree) (t : Tree) → ((x : ℕ) → IsFree x t ⊎ (σ x ≡ τ x)) → apply σ t ≡ apply τ t
  instance_eq σ τ (var y) h = elim (h y) [ inl k ↦ absurd (k refl) | inr e ↦ e ]
  instance_eq σ τ (app f ts) h = ap (λ us. app f us) (instances_eq σ τ ts h)

  pub instances_eq : (σ τ : ℕ → Tree) (ts : Trees) → ((x : ℕ) → AreFree x ts ⊎ (σ x ≡ τ x)) → apply_all σ ts ≡ apply_all τ ts
  instances_eq σ τ nil h = refl
  instances_eq σ τ (cons t ts) h =
      ap (λ u. cons u (apply_all σ ts)) (instance_eq σ τ t (λ x. drop_second (h x)))
      ∙ ap (λ us. cons (apply τ t) us) (instances_eq σ τ ts (λ x. drop_first (h x)))
