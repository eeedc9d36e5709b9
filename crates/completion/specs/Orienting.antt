-- A pair of different normal forms as a new rule.
use Rattle.std.specs.Prelude.{◌≡◌, ◌≤◌, ℕ, ◌⊎◌, List, [], ◌∷◌, ◌++◌}
use Rattle.trs_defs.specs.Tree.{Tree, var}
use Rattle.trs_defs.specs.Size.{depth_of}
use Rattle.trs_defs.specs.Variable.{variables_of, with_variables}
use Rattle.trs_defs.specs.Substitution.{apply}
use Rattle.trs_defs.specs.System.{RewriteRule}
use Rattle.trs_core.specs.SystemLimits.{IsWithinLimits}
use Rattle.crit_pairs.specs.PeakList.{IsCount}

-- l and r are s and t with other names for the variables, and the other way round
pub record AreVariants (s t l r : Tree) : Type 0 where
  pub names : ℕ → ℕ
  pub back : ℕ → ℕ
  pub left_from : apply (λ v. var (names v)) l ≡ s
  pub right_from : apply (λ v. var (names v)) r ≡ t
  pub left_to : apply (λ v. var (back v)) s ≡ l
  pub right_to : apply (λ v. var (back v)) t ≡ r

-- s to t as a rule, whose variables are numbered in order of first occurrence in its left side
pub record IsNewRule (s t : Tree) (r : RewriteRule) : Type 0 where
  pub variants : AreVariants s t r.left r.right
  pub counted : IsCount 0 (variables_of r.left)

-- the greater one to the smaller one
abbrev pub IsOriented : (Tree → Tree → Type 0) → Tree → Tree → RewriteRule → Type 0
IsOriented greater s t r = (greater s t × IsNewRule s t r) ⊎ (greater t s × IsNewRule t s r)

-- neither is greater; u and v are both, with variables numbered in order of first occurrence in u and then in v
pub record IsUnoriented (greater : Tree → Tree → Type 0) (s t u v : Tree) : Type 0 where
  pub not_left : greater s t → ⊥
  pub not_right : greater t s → ⊥
  pub variants : AreVariants s t u v
  pub counted : IsCount 0 (with_variables (variables_of u) v)

-- with the new rule the system keeps its limits, and the rule is shallow enough to be printed
pub record Fits (arities : List ℕ) (rules : List RewriteRule) (r : RewriteRule) : Type 0 where
  pub limits : IsWithinLimits (record { arities = arities; rules = rules ++ r ∷ [] })
  pub left_shallow : depth_of r.left ≤ 256
  pub right_shallow : depth_of r.right ≤ 256
