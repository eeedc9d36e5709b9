-- Terms that are apart by their caps. (Zankl, Felgenhauer and Middeldorp, CSI, a confluence tool, 2011.)
use Rattle.std.specs.Prelude.{◌≡◌, ℕ, Bool, ◌||◌, List}
use Rattle.trs_defs.specs.Tree.{Tree}
use Rattle.trs_defs.specs.Variable.{has_var}
use Rattle.trs_defs.specs.Substitution.{apply}
use Rattle.trs_defs.specs.System.{RewriteRule}
use Rattle.trs_caps.specs.Caps.{Leaves, IsCapWith}

-- the variables of both terms
abbrev pub in_either : Tree → Tree → ℕ → Bool
in_either a b v = has_var v a || has_var v b

-- The caps unify, renamed apart: one substitution for each makes them equal. Own variables count as constants.
abbrev pub Unify : (ℕ → Bool) → Tree → Tree → Type 0
Unify own c d = (σ : ℕ → Tree) × (τ : ℕ → Tree) × Leaves own σ × Leaves own τ × (apply σ c ≡ apply τ d)

-- The caps of two terms do not unify, where the variables of both count as constants. A variable of both terms is one constant.
pub record AreApart (rules : List RewriteRule) (a b : Tree) : Type 0 where
  pub first : Tree
  pub second : Tree
  pub first_cap : IsCapWith rules (in_either a b) a first
  pub second_cap : IsCapWith rules (in_either a b) b second
  pub apart : Unify (in_either a b) first second → ⊥
