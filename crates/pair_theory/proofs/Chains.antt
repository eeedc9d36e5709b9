-- Chain steps: of more pairs, of either of two sets, over an arity function; groups of pairs in order.
use Rattle.std.proofs.Common.{◌≡◌, ℕ, zero, suc, ◌+◌, ◌≤◌, ◌<◌, sym, ap, subst, arith, ◌∙◌, ◌⊎◌, inl, inr, Option, Some}
use native.Mathlib.Decide.{dec_le}
use Rattle.trs_defs.specs.Tree.{Tree, var, Trees}
use Rattle.pair_theory.specs.Accessible.{Acc, acc}
use Rattle.pair_theory.specs.Terminates.{ArgumentStep, Terminates}
use Rattle.pair_theory.specs.Subterm.{Sub, Subs}
use Rattle.pair_theory.specs.Over.{IsOver, AreOver}
use Rattle.trs_defs.specs.Every.{Every}
use Rattle.trs_defs.specs.Run.{Run}
use Rattle.pair_theory.specs.Marked.{Marked, plain}
use Rattle.pair_theory.specs.Chain.{ChainStep, link}
use Rattle.trs_defs.proofs.ArgumentLists.{count_apply_all}
use Rattle.trs_defs.proofs.Runs.{run_keeps}
use Rattle.pair_theory.proofs.Accessibility.{acc_induction}
use Rattle.pair_theory.proofs.Over.{over_apply_all, over_var_all, steps_over}

pub chain_map : {rule : Tree → Tree → Type 0} {p q : Marked → Marked → Type 0} → ((l r : Marked) → p l r → q l r) → {u v : Marked} → ChainStep rule p u v → ChainStep rule q u v
chain_map f (link l r σ h e reach to small) = link l r σ (f l r h) e reach to small

pub chain_small : {rule : Tree → Tree → Type 0} {p : Marked → Marked → Type 0} {u v : Marked} → ChainStep rule p u v → Every (Terminates rule) v.args
chain_small (link l r σ h e reach to small) = small

pub pair_of_chain : {rule : _} {p : Marked → Marked → Type 0} {u v : Marked} → ChainStep rule p u v → (l : Marked) × (r : Marked) × p l r
pair_of_chain (link l r σ h e reach to small) = (l, r, h)

-- a chain step by one of two sets of pairs
pub chain_either : {rule : Tree → Tree → Type 0} {p q : Marked → Marked → Type 0} {u v : Marked} → ChainStep rule (λ l r. p l r ⊎ q l r) u v
    → ChainStep rule p u v ⊎ ChainStep rule q u v
chain_either (link l r σ (inl h) e reach to small) = inl (link l r σ h e reach to small)
chain_either (link l r σ (inr h) e reach to small) = inr (link l r σ h e reach to small)

module _ (arity : ℕ → Option ℕ) (rule : Tree → Tree → Type 0) (right : (l r : Tree) → rule l r → IsOver arity r)
    (vars : (l r : Tree) → rule l r → (x : ℕ) → Sub (var x) r → Sub (var x) l) where
  run_over : {ss ts : Trees} → Run (ArgumentStep rule) ss ts → AreOver arity ss → AreOver arity ts
  run_over run w = run_keeps (AreOver arity) (λ ss ts w s. steps_over arity rule right vars s w) w run

  pub chain_over : {pair : Marked → Marked → Type 0} → ((l r : Marked) → pair l r → IsOver arity (plain r))
      → ((l r : Marked) → pair l r → (x : ℕ) → Subs (var x) r.args → Subs (var x) l.args)
      → {u v : Marked} → ChainStep rule pair u v → IsOver arity (plain u) → IsOver arity (plain v)
  chain_over good vars' (link l r σ h e reach to small) w =
      subst (λ v. IsOver arity (plain v)) (sym to)
      ((good l r h).0 ∙ ap Some (sym (count_apply_all σ r.args)), over_apply_all arity σ r.args (good l r h).1 (λ x p. over_var_all arity σ (vars' l r h x p) (run_over reach w.1)))

-- groups of pairs in order, where no pair of a later group leads back to an earlier one
module _ (rule : Tree → Tree → Type 0) (Ok : Marked → Type 0) (pair : ℕ → Marked → Marked → Type 0) (group : ℕ → ℕ)
    (keeps : (i : ℕ) (u v : Marked) → Ok u → ChainStep rule (pair i) u v → Ok v)
    (onward : (i j : ℕ) (u v w : Marked) → ChainStep rule (pair i) u v → ChainStep rule (pair j) v w → group i ≤ group j) where
  abbrev pub All : Marked → Marked → Type 0
  All l r = (i : ℕ) × pair i l r

  abbrev pub OfGroup : ℕ → Marked → Marked → Type 0
  OfGroup k l r = (i : ℕ) × (group i ≡ k) × pair i l r

  by_which : {u v : Marked} → ChainStep rule All u v → (i : ℕ) × ChainStep rule (pair i) u v
  by_which (link l r σ h e reach to small) = (h.0, link l r σ h.1 e reach to small)

  abbrev From : ℕ → Marked → Type 0
  From k u = (j : ℕ) (w : Marked) → ChainStep rule (pair j) u w → k ≤ group j

  module _ (last : ℕ) (below : (i : ℕ) (u v : Marked) → ChainStep rule (pair i) u v → group i < last) (parts : (k : ℕ) (u : Marked) → Ok u → Acc (ChainStep rule (OfGroup k)) u) where
    from_group : (d k : ℕ) → last ≤ k + d → (u : Marked) → Ok u → From k u → Acc (ChainStep rule All) u
    from_group zero k le u ok from = acc (λ v c. let b : (i : ℕ) × ChainStep rule (pair i) u v = by_which c in
        let h : k ≤ group b.0 = from b.0 v b.1 in let h' : group b.0 < last = below b.0 u v b.1 in absurd (omega arith))
    from_group (suc d) k le u ok from =
        acc_induction {P = λ u. Ok u → From k u → Acc (ChainStep rule All) u}
        (λ u under rec ok from. acc (λ v c. let b : (i : ℕ) × ChainStep rule (pair i) u v = by_which c in
        go u v b.0 b.1 (rec v) (keeps b.0 u v ok b.1) (from b.0 v b.1) (from_group d (suc k) (omega arith)) (dec_le (group b.0) k)))
        (parts k u ok) ok from
      where
        go : (u v : Marked) (i : ℕ) → ChainStep rule (pair i) u v → (ChainStep rule (OfGroup k) u v → Ok v → From k v → Acc (ChainStep rule All) v)
            → Ok v → k ≤ group i → ((u : Marked) → Ok u → From (suc k) u → Acc (ChainStep rule All) u) → Dec (group i ≤ k) → Acc (ChainStep rule All) v
        go u v i c rec ok le next (yes p) = rec (chain_map (λ l r h. (i, omega arith, h)) c) ok
            (λ j w c'. let h : group i ≤ group j = onward i j u v w c c' in omega arith)
        go u v i c rec ok le next (no n) = next v ok (λ j w c'. let h : group i ≤ group j = onward i j u v w c c' in omega arith)

    pub groups : (u : Marked) → Ok u → Acc (ChainStep rule All) u
    groups u ok = from_group last 0 (omega arith) u ok (λ j w c. omega arith)
