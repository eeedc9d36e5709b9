-- Overlaps, with no positions. (Baader and Nipkow, section 6.2.)
use Rattle.std.specs.Prelude.{ℕ}
use Rattle.trs_defs.specs.Tree.{Tree, Trees, app, cons}
use Rattle.trs_defs.specs.Substitution.{apply, apply_all}

-- R at a place of the pattern that is no variable, in the pattern's instance under σ
mutual
  pub data Overlap (R : Tree → Tree → Type 0) (σ : ℕ → Tree) : Tree → Tree → Type 0 where
    overlap_here : {f : ℕ} {ps : Trees} {t : Tree} → R (apply σ (app f ps)) t → Overlap R σ (app f ps) t
    overlap_deep : {f : ℕ} {ps ts : Trees} → OverlapOne R σ ps ts → Overlap R σ (app f ps) (app f ts)

  -- such a place in one item of a list of patterns
  pub data OverlapOne (R : Tree → Tree → Type 0) (σ : ℕ → Tree) : Trees → Trees → Type 0 where
    overlap_first : {p t : Tree} {ps : Trees} → Overlap R σ p t → OverlapOne R σ (cons p ps) (cons t (apply_all σ ps))
    overlap_later : {p : Tree} {ps ts : Trees} → OverlapOne R σ ps ts → OverlapOne R σ (cons p ps) (cons (apply σ p) ts)
