-- The peaks of two steps, for any way to close them.
use Rattle.std.proofs.Common.{ℕ, ◌≡◌, ◌⊎◌, inl, inr, sym, ◌∙◌, subst}
use native.Mathlib.Decide.{ℕ_discrete}
use Rattle.trs_defs.specs.Step.{Inside, InsideOne, here, deep, first, later, RootStep}
use Rattle.trs_defs.specs.Substitution.{apply, apply_all}
use Rattle.trs_defs.specs.Tree.{Tree, Trees, app, cons}
use Rattle.confluence_theory.proofs.Families.{IsFamily, Redex, redex_of, one_result}

module _ (rule : ℕ → Tree → Tree → Type 0) (sys : IsFamily rule) (closed : ℕ → ℕ → Tree → Tree → Type 0)
    (mirror : (i j : ℕ) (t u : Tree) → closed i j t u → closed j i u t)
    (deeper : (i j f : ℕ) (ts us : Trees) → InsideOne (closed i j) ts us → closed i j (app f ts) (app f us))
    (equal : (i : ℕ) (t : Tree) → closed i i t t)
    (apart : (i j : ℕ) (t u v : Tree) → Inside (RootStep (rule j)) t v → Inside (RootStep (rule i)) u v → closed i j t u)
    (overlap : (i j : ℕ) (l r t : Tree) (σ : ℕ → Tree) → rule j l r → ¬ (i ≡ j) → RootStep (rule i) (apply σ l) t → closed i j t (apply σ r))
    (nested_at : (i j f : ℕ) (ls us : Trees) (r : Tree) (σ : ℕ → Tree) → rule j (app f ls) r → InsideOne (RootStep (rule i)) (apply_all σ ls) us → closed i j (app f us) (apply σ r))
  where
    nested : (i j f : ℕ) (ts us : Trees) (u : Tree) → InsideOne (RootStep (rule i)) ts us → RootStep (rule j) (app f ts) u → closed i j (app f us) u
    nested i j f ts us u d q =
        let x : Redex rule j f ts u = redex_of rule sys j f ts u q in
        let dx : InsideOne (RootStep (rule i)) (apply_all x.σ x.left) us = (let P : Trees → Type 0 = λ z. InsideOne (RootStep (rule i)) z us in subst P x.arguments d) in
        let P : Tree → Type 0 = λ z. closed i j (app f us) z in
        subst P (sym x.reduct) (nested_at i j f x.left us x.right x.σ x.is_rule dx)

    at_root : (i j : ℕ) (s t u : Tree) → RootStep (rule i) s t → RootStep (rule j) s u → closed i j t u
    at_root i j s t u (l, r, σ, h, e, e') (l₂, r₂, σ₂, h₂, e₂, e₂') =
        elim (ℕ_discrete i j) [
          | yes k ↦
              let P : ℕ → Type 0 = λ z. closed i z t u in
              let Q : Tree → Type 0 = λ z. closed i i t z in
              subst P k (subst Q (one_result rule sys i j s t u k (l, r, σ, h, e, e') (l₂, r₂, σ₂, h₂, e₂, e₂')) (equal i t))
          | no k ↦
              let P : Tree → Type 0 = λ z. closed i j t z in
              subst P (sym e₂') (overlap i j l₂ r₂ t σ₂ h₂ k (l, r, σ, h, sym e₂ ∙ e, e'))
        ]

    deep_case : (i j f : ℕ) (us us' : Trees) → (InsideOne (closed i j) us us' ⊎ ((vs : Trees) × InsideOne (RootStep (rule j)) us vs × InsideOne (RootStep (rule i)) us' vs)) → closed i j (app f us) (app f us')
    deep_case i j f us us' (inl q) = deeper i j f us us' q
    deep_case i j f us us' (inr (vs, p, q)) = apart i j (app f us) (app f us') (app f vs) (deep p) (deep q)

    later_case : (i j : ℕ) (t : Tree) (us us' : Trees) → (InsideOne (closed i j) us us' ⊎ ((vs : Trees) × InsideOne (RootStep (rule j)) us vs × InsideOne (RootStep (rule i)) us' vs)) → InsideOne (closed i j) (cons t us) (cons t us') ⊎ ((vs : Trees) × InsideOne (RootStep (rule j)) (cons t us) vs × InsideOne (RootStep (rule i)) (cons t us') vs)
    later_case i j t us us' (inl q) = inl (later q)
    later_case i j t us us' (inr (vs, p, q)) = inr (cons t vs, later p, later q)

    module _ (i j : ℕ) where
      mutual
        pub peak : {s t u : Tree} → Inside (RootStep (rule i)) s t → Inside (RootStep (rule j)) s u → closed i j t u
        peak {s} {t} {u} (here a) (here b) = at_root i j s t u a b
        peak {u = u} (deep {f = f} {ss = ts} {ts = us} d) (here b) = nested i j f ts us u d b
        peak {t = t} (here a) (deep {f = f} {ss = ts} {ts = us} d) = mirror j i (app f us) t (nested j i f ts us t d a)
        peak (deep {f = f} {ts = us} d) (deep {ts = us'} e) = deep_case i j f us us' (peak_all d e)

        pub peak_all : {ts us us' : Trees} → InsideOne (RootStep (rule i)) ts us → InsideOne (RootStep (rule j)) ts us' → InsideOne (closed i j) us us' ⊎ ((vs : Trees) × InsideOne (RootStep (rule j)) us vs × InsideOne (RootStep (rule i)) us' vs)
        peak_all (first d) (first e) = inl (first (here (peak d e)))
        peak_all (first {t = u} d) (later {ts = us'} e) = inr (cons u us', later e, first d)
        peak_all (later {ts = us} d) (first {t = u} e) = inr (cons u us, first e, later d)
        peak_all (later {t = t} {ts = us} d) (later {ts = us'} e) = later_case i j t us us' (peak_all d e)
