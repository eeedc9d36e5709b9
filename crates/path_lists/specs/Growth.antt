-- How much a step makes a term larger.
use Rattle.std.specs.Prelude.{◌≡◌, ◌≤◌, ◌⊎◌, ℕ, ◌+◌, List}
use Rattle.trs_defs.specs.Member.{In}
use Rattle.trs_defs.specs.Tree.{Tree}
use Rattle.trs_defs.specs.Variable.{IsLinear}
use Rattle.trs_defs.specs.Size.{size_of}
use Rattle.trs_defs.specs.System.{RewriteRule}
use Rattle.trs_defs.specs.Path.{StepsAt}

-- by at most so many nodes
pub record GrowsBy (rules : List RewriteRule) (growth : ℕ) : Type 0 where
  pub step : (p : List ℕ) (k : ℕ) (t u : Tree) → StepsAt rules p k t u → size_of u ≤ size_of t + growth

-- no variable occurs twice in a right side
pub record AreRightLinear (rules : List RewriteRule) : Type 0 where
  pub each : (rule : RewriteRule) → In rule rules → IsLinear rule.right

-- a growth that is known, or the nodes of a linear right side
abbrev pub IsGrowthOf : RewriteRule → ℕ → ℕ → Type 0
IsGrowthOf rule known growth = (growth ≡ known) ⊎ (IsLinear rule.right × (size_of rule.right ≤ 65536 → growth ≡ size_of rule.right))
