-- The left sides of rules in a pool.
use Rattle.std.specs.Prelude.{◌≡◌, ℕ, Bool, true, false, List, Some, slice_get}
use Rattle.trs_defs.specs.Tree.{Tree}
use Rattle.trs_defs.specs.Variable.{has_var}
use Rattle.trs_defs.specs.System.{RewriteRule}
use Rattle.term_pool.specs.Pooled.{StandsFor, tree_at}
use Rattle.term_pool.specs.declared.left_sides.LeftSides.{LeftSides}

-- no variable occurs in the term
abbrev pub IsGround : Tree → Type 0
IsGround t = (v : ℕ) → has_var v t ≡ false

-- the terms of marked ids are ground
pub record AreGround (pool : List Tree) (marks : List Bool) : Type 0 where
  pub each : (id : ℕ) → slice_get marks id ≡ Some true → IsGround (tree_at pool id)

-- each id stands for the left side of the rule with its number, and marked ids are ground
pub record AreLeftSides (rules : List RewriteRule) (pool : List Tree) (sides : LeftSides) : Type 0 where
  pub each : (k id : ℕ) (r : RewriteRule) → slice_get sides.ids.items k ≡ Some id → slice_get rules k ≡ Some r → StandsFor pool id r.left
  pub ground : AreGround pool sides.ground.items
