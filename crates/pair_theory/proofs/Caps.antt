-- The cap of a right side covers what it goes to, so that two chain steps in a row make an edge.
use Rattle.std.proofs.Common.{◌≡◌, ℕ, sym, ap, subst, ◌∙◌}
use Rattle.trs_defs.specs.Tree.{Tree, Trees}
use Rattle.trs_defs.specs.Substitution.{apply_all}
use Rattle.pair_theory.specs.Terminates.{ArgumentStep}
use Rattle.trs_defs.specs.Run.{Run}
use Rattle.pair_theory.specs.Marked.{Marked, marked}
use Rattle.trs_defs.specs.Cap.{EachFits, Caps}
use Rattle.pair_theory.specs.Chain.{ChainStep, link}
use Rattle.trs_defs.proofs.CapLaws.{instances_fit, runs_fit}

module _ (rule : Tree → Tree → Type 0) where
  -- some instance of the next left side's arguments fits the caps of the right side's
  abbrev pub Edge : Marked → Marked → Trees → Type 0
  Edge r l cs = (r.symbol ≡ l.symbol) × (σ : ℕ → Tree) × EachFits cs (apply_all σ l.args)

  module _ (p q : Marked → Marked → Type 0) (r l : Marked) (is_r : (l' r' : Marked) → p l' r' → r' ≡ r) (is_l : (l' r' : Marked) → q l' r' → l' ≡ l) where
    pub edge_root : (u v w : Marked) → ChainStep rule p u v → ChainStep rule q v w → r.symbol ≡ l.symbol
    edge_root u v w (link l₁ r₁ σ h e reach to small) (link l₂ r₂ τ h' e' reach' to' small') =
        let v_is : v ≡ marked r.symbol (apply_all σ r.args) = subst (λ z. v ≡ marked z.symbol (apply_all σ z.args)) (is_r l₁ r₁ h) to in
        sym (ap (λ z. z.symbol) v_is) ∙ subst (λ z. v.symbol ≡ z.symbol) (is_l l₂ r₂ h') e'

  pub edge_covers : (p q : Marked → Marked → Type 0) (r l : Marked) (cs : Trees) → Caps rule r.args cs
      → ((l' r' : Marked) → p l' r' → r' ≡ r) → ((l' r' : Marked) → q l' r' → l' ≡ l)
      → (u v w : Marked) → ChainStep rule p u v → ChainStep rule q v w → Edge r l cs
  edge_covers p q r l cs k is_r is_l u v w (link l₁ r₁ σ h e reach to small) (link l₂ r₂ τ h' e' reach' to' small') =
      let v_is : v ≡ marked r.symbol (apply_all σ r.args) = subst (λ z. v ≡ marked z.symbol (apply_all σ z.args)) (is_r l₁ r₁ h) to in
      let root_is : v.symbol ≡ l.symbol = subst (λ z. v.symbol ≡ z.symbol) (is_l l₂ r₂ h') e' in
      let goes : Run (ArgumentStep rule) (apply_all σ r.args) (apply_all τ l.args) =
      subst (λ z. Run (ArgumentStep rule) z.args (apply_all τ l.args)) v_is (subst (λ z. Run (ArgumentStep rule) v.args (apply_all τ z.args)) (is_l l₂ r₂ h') reach') in
      (sym (ap (λ z. z.symbol) v_is) ∙ root_is, τ, runs_fit rule k (instances_fit rule σ k) goes)
