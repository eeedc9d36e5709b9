-- A step inside a redex of a linear rule.
use Rattle.std.proofs.Common.{ℕ, inl, inr, refl, ap}
use Rattle.confluence_theory.proofs.Free.{IsSeparate}
use Rattle.confluence_theory.specs.Overlap.{OverlapOne}
use Rattle.trs_defs.specs.Run.{AtMostOne}
use Rattle.trs_defs.specs.Step.{Inside, InsideOne, here, RootStep}
use Rattle.trs_defs.specs.Substitution.{apply, apply_all}
use Rattle.trs_defs.specs.Tree.{Tree, Trees, app}
use Rattle.confluence_theory.proofs.Substitutions.{but}
use Rattle.confluence_theory.proofs.LinearInstances.{split_all, copies}

module _ (rule : ℕ → Tree → Tree → Type 0) (closed : ℕ → ℕ → Tree → Tree → Type 0)
    (linear : (i : ℕ) (l r : Tree) → rule i l r → IsSeparate l × IsSeparate r)
    (apart : (i j : ℕ) (t u v : Tree) → Inside (RootStep (rule j)) t v → AtMostOne (Inside (RootStep (rule i))) u v → closed i j t u)
    (overlap : (i j f : ℕ) (ls us : Trees) (r : Tree) (σ : ℕ → Tree) → rule j (app f ls) r → OverlapOne (RootStep (rule i)) σ ls us → closed i j (app f us) (apply σ r))
  where
    pub linear_nested : (i j f : ℕ) (ls us : Trees) (r : Tree) (σ : ℕ → Tree) → rule j (app f ls) r → InsideOne (RootStep (rule i)) (apply_all σ ls) us → closed i j (app f us) (apply σ r)
    linear_nested i j f ls us r σ h d =
        elim (split_all (RootStep (rule i)) σ ls us (linear j (app f ls) r h).0 d) [
          | inl o ↦ overlap i j f ls us r σ h o
          | inr m ↦
              let τ : ℕ → Tree = but σ m.x m.y in
              apart i j (app f us) (apply σ r) (apply τ r)
              (here (app f ls, r, τ, h, ap (λ vs. app f vs) m.moved, refl))
              (copies (RootStep (rule i)) σ m.x m.y m.step r (linear j (app f ls) r h).1)
        ]
