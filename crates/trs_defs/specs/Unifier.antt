-- Most general unifiers. (Baader and Nipkow, section 4.5.)
use Rattle.std.specs.Prelude.{◌≡◌, ℕ}
use Rattle.trs_defs.specs.Tree.{Tree}
use Rattle.trs_defs.specs.Substitution.{apply}

-- m makes s and t equal, and each unifier of s and t is an instance of m
pub record IsMostGeneralUnifier (s t : Tree) (m : ℕ → Tree) : Type 0 where
  pub unifies : apply m s ≡ apply m t
  pub most_general : (σ : ℕ → Tree) → apply σ s ≡ apply σ t → (τ : ℕ → Tree) × ((v : ℕ) → σ v ≡ apply τ (m v))
