-- Where an order is well-founded in the finite sense, its strict pairs may go.
use Rattle.std.proofs.Common.{◌≡◌, ℕ, zero, suc, ◌+◌, ◌≤◌, refl, sym, subst, arith, ◌⊎◌, inl, inr, List}
use Rattle.trs_defs.specs.Tree.{Tree, app, Trees}
use Rattle.pair_theory.specs.Accessible.{Acc, acc}
use Rattle.trs_defs.specs.Step.{here, deep}
use Rattle.pair_theory.specs.Terminates.{ArgumentStep}
use Rattle.trs_defs.specs.System.{RewriteRule, Among}
use Rattle.trs_defs.specs.Run.{Run, Stay, Go}
use Rattle.pair_theory.specs.Marked.{Marked, mark}
use Rattle.pair_theory.specs.Chain.{ChainStep, link}
use Rattle.pair_theory.specs.Moves.{Moves, no_moves, weakly, strictly, MovesAtMost}
use Rattle.trs_defs.proofs.StepLaws.{argument_step_of_more}
use Rattle.pair_theory.proofs.Accessibility.{acc_induction}
use Rattle.pair_theory.proofs.Chains.{chain_either}

-- pairs go, where no pair that stays raises a bound and each pair that goes lowers it
module _ (rule : Tree → Tree → Type 0) (stay go : Marked → Marked → Type 0)
    (Ok : Marked → Type 0) (keeps : (u v : Marked) → Ok u → ChainStep rule (λ l r. stay l r ⊎ go l r) u v → Ok v)
    (rest : (u : Marked) → Ok u → Acc (ChainStep rule stay) u)
    (Bound : ℕ → Marked → Type 0)
    (on_stay : (n : ℕ) (u v : Marked) → Ok u → ChainStep rule stay u v → Bound n u → Bound n v)
    (on_go : (n : ℕ) (u v : Marked) → Ok u → ChainStep rule go u v → Bound (suc n) u → Bound n v)
    (at_zero : (u v : Marked) → Ok u → ChainStep rule go u v → Bound zero u → ⊥) where
  pub removal_by : (n : ℕ) (u : Marked) → Ok u → Bound n u → Acc (ChainStep rule (λ l r. stay l r ⊎ go l r)) u
  removal_by zero u ok b =
      acc_induction {P = λ u. Ok u → Bound zero u → Acc (ChainStep rule (λ l r. stay l r ⊎ go l r)) u}
      (λ u below rec ok b. acc (λ v c. elim (chain_either c) [
        | inl c' ↦ rec v c' (keeps u v ok c) (on_stay zero u v ok c' b)
        | inr c' ↦ absurd (at_zero u v ok c' b)
      ]))
      (rest u ok) ok b
  removal_by (suc n) u ok b =
      let lower : (u : Marked) → Ok u → Bound n u → Acc (ChainStep rule (λ l r. stay l r ⊎ go l r)) u = removal_by n in
      acc_induction {P = λ u. Ok u → Bound (suc n) u → Acc (ChainStep rule (λ l r. stay l r ⊎ go l r)) u}
      (λ u below rec ok b. acc (λ v c. elim (chain_either c) [
        | inl c' ↦ rec v c' (keeps u v ok c) (on_stay (suc n) u v ok c' b)
        | inr c' ↦ lower v (keeps u v ok c) (on_go n u v ok c' b)
      ]))
      (rest u ok) ok b

-- where an order is well-founded in the finite sense, the number of strict moves is such a bound
module _ (rule : Tree → Tree → Type 0) (stay go : Marked → Marked → Type 0) (ws ss : List RewriteRule)
    (rules_in : (l r : Tree) → rule l r → Among ws l r)
    (stay_in : (l r : Marked) → stay l r → Among ws (mark l) (mark r))
    (go_in : (l r : Marked) → go l r → Among ss (mark l) (mark r)) where
  abbrev pub Either : Marked → Marked → Type 0
  Either l r = stay l r ⊎ go l r

  -- n is a bound on the strict moves from u
  abbrev Bound : ℕ → Marked → Type 0
  Bound n u = (m : ℕ) (t : Tree) → Moves ws ss m (mark u) t → m ≤ n

  moves_run : {f n : ℕ} {us vs : Trees} {t : Tree} → Run (ArgumentStep rule) us vs → Moves ws ss n (app f vs) t → Moves ws ss n (app f us) t
  moves_run Stay ms = ms
  moves_run (Go s rest) ms = weakly (deep (argument_step_of_more rule (Among ws) rules_in s)) (moves_run rest ms)

  same_mark : {f g : ℕ} {us : Trees} {n : ℕ} {t : Tree} → f ≡ g → Moves ws ss n (app (g + 4096) us) t → Moves ws ss n (app (f + 4096) us) t
  same_mark {us = us} {n = n} {t = t} e ms = subst (λ k. Moves ws ss n (app (k + 4096) us) t) (sym e) ms

  stay_moves : {u v : Marked} {n : ℕ} {t : Tree} → ChainStep rule stay u v → Moves ws ss n (mark v) t → Moves ws ss n (mark u) t
  stay_moves {n = n} {t = t} (link l r σ h e reach to small) ms =
      same_mark e (moves_run reach (weakly (here (mark l, mark r, σ, stay_in l r h, refl, refl)) (subst (λ v. Moves ws ss n (mark v) t) to ms)))

  go_moves : {u v : Marked} {n : ℕ} {t : Tree} → ChainStep rule go u v → Moves ws ss n (mark v) t → Moves ws ss (suc n) (mark u) t
  go_moves {n = n} {t = t} (link l r σ h e reach to small) ms =
      same_mark e (moves_run reach (strictly (mark l, mark r, σ, go_in l r h, refl, refl) (subst (λ v. Moves ws ss n (mark v) t) to ms)))

  module _ (Ok : Marked → Type 0) (keeps : (u v : Marked) → Ok u → ChainStep rule Either u v → Ok v)
      (rest : (u : Marked) → Ok u → Acc (ChainStep rule stay) u) where
    pub removal : {Spoken : Tree → Type 0} → ((u : Marked) → Ok u → Spoken (mark u)) → ((t : Tree) → Spoken t → (n : ℕ) × MovesAtMost ws ss n t)
        → (u : Marked) → Ok u → Acc (ChainStep rule Either) u
    removal spoken bounds u ok =
        let b : (n : ℕ) × Bound n u = bounds (mark u) (spoken u ok) in
        removal_by rule stay go Ok keeps rest Bound
        (λ n u v ok c b m t ms. b m t (stay_moves c ms))
        (λ n u v ok c b m t ms. let h : suc m ≤ suc n = b (suc m) t (go_moves c ms) in omega arith)
        (λ u v ok c b. let h : 1 ≤ 0 = b 1 (mark v) (go_moves c no_moves) in omega arith)
        b.0 u ok b.1
