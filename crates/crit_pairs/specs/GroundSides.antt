-- Right sides with no variable, by their ids in a pool.
use Rattle.std.specs.Prelude.{◌≡◌, ◌≤◌, ℕ, List, [], Option, Some, IsTrue, length, slice_get}
use Rattle.trs_defs.specs.Tree.{Tree}
use Rattle.trs_defs.specs.Size.{size_of, within_limits}
use Rattle.trs_defs.specs.System.{RewriteRule}
use Rattle.term_pool.specs.Pooled.{StandsFor}
use Rattle.term_pool.specs.LeftSides.{IsGround}
use Rattle.crit_pairs.specs.declared.ground_sides.GroundSide.{GroundSide}

-- the term has no variable, and at least 128 nodes
abbrev pub IsLargeResult : Tree → Type 0
IsLargeResult t = IsGround t × (128 ≤ size_of t)

-- the term has no variable and keeps the limits, and this is its id and its number of nodes
pub record IsGroundSide (pool : List Tree) (t : Tree) (side : GroundSide) : Type 0 where
  pub stands : StandsFor pool side.id t
  pub ground : IsGround t
  pub small : IsTrue (within_limits t)
  pub size : side.size ≡ size_of t

-- for each rule its right side as such a term, or none
pub record AreGroundRights (rules : List RewriteRule) (pool : List Tree) (sides : List (Option GroundSide)) : Type 0 where
  pub count : length sides ≡ length rules
  pub each : (k : ℕ) (side : GroundSide) (r : RewriteRule) → slice_get sides k ≡ Some (Some side) → slice_get rules k ≡ Some r
      → IsGroundSide pool r.right side

-- at the root, and both rules have such right sides: those are the results of their peak
pub record HaveGroundResults (place : List ℕ) (inner outer : ℕ) (sides : List (Option GroundSide)) (left right : GroundSide) : Type 0 where
  pub root : place ≡ []
  pub left_side : slice_get sides inner ≡ Some (Some left)
  pub right_side : slice_get sides outer ≡ Some (Some right)
