-- A step in an instance of any pattern, and its copies in an instance of any term.
use Rattle.std.proofs.Common.{ℕ, ◌⊎◌, inl, inr, sym, subst}
use native.Mathlib.Decide.{ℕ_discrete}
use Rattle.confluence_theory.specs.Overlap.{Overlap, OverlapOne, overlap_here, overlap_deep, overlap_first, overlap_later}
use Rattle.trs_defs.specs.Run.{Run, Stay, Go}
use Rattle.trs_defs.specs.Step.{Inside, InsideOne, here, deep, first, later}
use Rattle.trs_defs.specs.Substitution.{apply, apply_all}
use Rattle.trs_defs.specs.Tree.{Tree, Trees, var, app, nil, cons}
use Rattle.trs_defs.proofs.StepLaws.{run_in_app, run_in_cons}
use Rattle.confluence_theory.proofs.Substitutions.{but, but_at}

-- a step below a variable leads to a run in any instance
mutual
  pub copies_any : (R : Tree → Tree → Type 0) (σ : ℕ → Tree) (x : ℕ) (y : Tree) → Inside R (σ x) y → (t : Tree) → Run (Inside R) (apply σ t) (apply (but σ x y) t)
  copies_any R σ x y d (var z) =
      elim (ℕ_discrete x z) as (λ c. Run (Inside R) (σ z) (elim c [ yes e ↦ y | no e ↦ σ z ])) [
        | yes e ↦ let P : ℕ → Type 0 = λ k. Inside R (σ k) y in Go (subst P e d) Stay
        | no e ↦ Stay
      ]
  copies_any R σ x y d (app f ts) = run_in_app f (copies_any_all R σ x y d ts)

  pub copies_any_all : (R : Tree → Tree → Type 0) (σ : ℕ → Tree) (x : ℕ) (y : Tree) → Inside R (σ x) y → (ts : Trees) → Run (InsideOne R) (apply_all σ ts) (apply_all (but σ x y) ts)
  copies_any_all R σ x y d nil = Stay
  copies_any_all R σ x y d (cons t ts) = run_in_cons (copies_any R σ x y d t) (copies_any_all R σ x y d ts)

-- a step below a variable of the pattern, and the run that makes the other copies of it
pub record Caught (R : Tree → Tree → Type 0) (σ : ℕ → Tree) (l u : Tree) : Type 0 where
  pub x : ℕ
  pub y : Tree
  pub step : Inside R (σ x) y
  pub others : Run (Inside R) u (apply (but σ x y) l)

pub record CaughtOne (R : Tree → Tree → Type 0) (σ : ℕ → Tree) (ls us : Trees) : Type 0 where
  pub x : ℕ
  pub y : Tree
  pub step : Inside R (σ x) y
  pub others : Run (InsideOne R) us (apply_all (but σ x y) ls)

caught_deep : {R : Tree → Tree → Type 0} {σ : ℕ → Tree} {f : ℕ} {ls us : Trees} → OverlapOne R σ ls us ⊎ CaughtOne R σ ls us → Overlap R σ (app f ls) (app f us) ⊎ Caught R σ (app f ls) (app f us)
caught_deep (inl o) = inl (overlap_deep o)
caught_deep {f = f} (inr m) = inr (record { x = m.x; y = m.y; step = m.step; others = run_in_app f m.others })

caught_first : {R : Tree → Tree → Type 0} {σ : ℕ → Tree} {l u : Tree} {ls : Trees} → Overlap R σ l u ⊎ Caught R σ l u → OverlapOne R σ (cons l ls) (cons u (apply_all σ ls)) ⊎ CaughtOne R σ (cons l ls) (cons u (apply_all σ ls))
caught_first (inl o) = inl (overlap_first o)
caught_first {R = R} {σ = σ} {l = l} {u = u} {ls = ls} (inr m) =
    inr (record {
      x = m.x;
      y = m.y;
      step = m.step;
      others = run_in_cons m.others (copies_any_all R σ m.x m.y m.step ls);
    })

caught_later : {R : Tree → Tree → Type 0} {σ : ℕ → Tree} {l : Tree} {ls us : Trees} → OverlapOne R σ ls us ⊎ CaughtOne R σ ls us → OverlapOne R σ (cons l ls) (cons (apply σ l) us) ⊎ CaughtOne R σ (cons l ls) (cons (apply σ l) us)
caught_later (inl o) = inl (overlap_later o)
caught_later {R = R} {σ = σ} {l = l} {ls = ls} {us = us} (inr m) =
    inr (record {
      x = m.x;
      y = m.y;
      step = m.step;
      others = run_in_cons (copies_any R σ m.x m.y m.step l) m.others;
    })

mutual
  pub split_any : (R : Tree → Tree → Type 0) (σ : ℕ → Tree) (l u : Tree) → Inside R (apply σ l) u → Overlap R σ l u ⊎ Caught R σ l u
  split_any R σ (var x) u d =
      let P : Tree → Type 0 = λ z. Run (Inside R) u z in
      inr (record { x = x; y = u; step = d; others = subst P (sym (but_at σ x u)) Stay })
  split_any R σ (app f ls) u (here r) = inl (overlap_here r)
  split_any R σ (app f ls) u (deep {ts = us} d) = caught_deep (split_any_all R σ ls us d)

  pub split_any_all : (R : Tree → Tree → Type 0) (σ : ℕ → Tree) (ls us : Trees) → InsideOne R (apply_all σ ls) us → OverlapOne R σ ls us ⊎ CaughtOne R σ ls us
  split_any_all R σ nil us d = elim d [ ]
  split_any_all R σ (cons l ls) us (first {t = u} d) = caught_first (split_any R σ l u d)
  split_any_all R σ (cons l ls) us (later {ts = vs} d) = caught_later (split_any_all R σ ls vs d)
