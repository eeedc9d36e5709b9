-- Reduction orders on the terms of an arity table, by what they do for rules. (Baader and Nipkow, section 5.2.)
use Rattle.std.specs.Prelude.{ℕ, List, IsTrue}
use Rattle.trs_defs.specs.Tree.{Tree}
use Rattle.trs_defs.specs.Variable.{has_var, IsVariable}
use Rattle.trs_defs.specs.Substitution.{apply}
use Rattle.trs_defs.specs.WellFormed.{IsWellFormed}
use Rattle.trs_defs.specs.Member.{In}
use Rattle.trs_defs.specs.System.{RewriteRule}
use Rattle.trs_defs.specs.Claims.{IsTerminating}

-- both sides are well-formed, and the left one is greater
pub record GoesDown (arities : List ℕ) (greater : Tree → Tree → Type 0) (r : RewriteRule) : Type 0 where
  pub left_well_formed : IsWellFormed arities r.left
  pub right_well_formed : IsWellFormed arities r.right
  pub greater_side : greater r.left r.right

pub record IsReductionOrder (arities : List ℕ) (greater : Tree → Tree → Type 0) : Type 0 where
  pub instance : (σ : ℕ → Tree) (s t : Tree) → greater s t → greater (apply σ s) (apply σ t)
  pub no_variable : (r : RewriteRule) → GoesDown arities greater r → IsVariable r.left → ⊥
  pub variables : (r : RewriteRule) → GoesDown arities greater r → (v : ℕ) → IsTrue (has_var v r.right) → IsTrue (has_var v r.left)
  pub terminating : (rules : List RewriteRule) → ((r : RewriteRule) → In r rules → GoesDown arities greater r)
      → IsTerminating (record { arities = arities; rules = rules })
