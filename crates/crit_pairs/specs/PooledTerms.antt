-- The sides of rules and of critical peaks in one pool.
use Rattle.std.specs.Prelude.{◌≡◌, ◌<◌, ℕ, List, [], Option, Some, None, IfSome, length, slice_get}
use Rattle.trs_defs.specs.Tree.{Tree}
use Rattle.trs_defs.specs.Substitution.{apply}
use Rattle.trs_defs.specs.Position.{replaced_at}
use Rattle.trs_defs.specs.System.{RewriteRule}
use Rattle.trs_core.specs.SystemLimits.{HaveSmallVariables}
use Rattle.term_pool.specs.LeftSides.{AreGround}
use Rattle.term_pool.specs.Pooled.{tree_at}
use Rattle.rewrite_core.specs.PlacedPeak.{PlacedPeak}
use Rattle.crit_pairs.specs.Apart.{renamed_apart}
use Rattle.crit_pairs.specs.InOrder.{in_order}
use Rattle.crit_pairs.specs.NumberedVariables.{AreVariableIds}
use Rattle.crit_pairs.specs.PeakList.{Spot}
use Rattle.crit_pairs.specs.PooledSide.{IsPooledSide}
use Rattle.crit_pairs.specs.Sides.{AreRenumbered}
use Rattle.crit_pairs.specs.Table.{ArePairs}
use Rattle.crit_pairs.specs.declared.pooled_rules.PooledRules.{PooledRules}
use Rattle.crit_pairs.specs.declared.pooled_side.PooledSide.{PooledSide}
use Rattle.crit_pairs.specs.declared.pooled_terms.PooledTerms.{PooledTerms}
use Rattle.crit_pairs.specs.declared.table.PeakPair.{PeakPair}

-- for each rule its right side
pub record ArePooledRights (rules : List RewriteRule) (pool : List Tree) (sides : List PooledSide) : Type 0 where
  pub count : length sides ≡ length rules
  pub each : (k : ℕ) (side : PooledSide) (r : RewriteRule) → slice_get sides k ≡ Some side → slice_get rules k ≡ Some r → IsPooledSide pool r.right side

-- for each rule its left side, or none
pub record ArePooledLefts (rules : List RewriteRule) (pool : List Tree) (sides : List (Option PooledSide)) : Type 0 where
  pub count : length sides ≡ length rules
  pub each : (k : ℕ) (side : PooledSide) (r : RewriteRule) → slice_get sides k ≡ Some (Some side) → slice_get rules k ≡ Some r → IsPooledSide pool r.left side

-- these are the rules, marked ids are ground, and known variables have their ids
pub record ArePooledRules (rules : List RewriteRule) (pool : List Tree) (sides : PooledRules) : Type 0 where
  pub small : HaveSmallVariables rules
  pub rights : ArePooledRights rules pool sides.rights.items
  pub lefts : ArePooledLefts rules pool sides.lefts.items
  pub ground : AreGround pool sides.ground.items
  pub numbered : AreVariableIds pool sides.numbered

-- the pairs are those of the peaks, and they are made of these rules, which are there before the first peak
pub record HoldSides (rules : List RewriteRule) (peaks : List PlacedPeak) (terms : PooledTerms) : Type 0 where
  pub pairs : ArePairs terms.pool terms.pairs.items peaks
  pub sides : IfSome terms.sides (ArePooledRules rules terms.pool)
  pub none : terms.sides ≡ None → peaks ≡ []

-- the terms of the peak at the spot, before their variables get new numbers
pub record ArePeakInstances (rules : List RewriteRule) (s : Spot) (unifier : ℕ → Tree) (top left right : Tree) : Type 0 where
  pub inner : RewriteRule
  pub outer : RewriteRule
  pub reduct : Tree
  pub inner_numbered : slice_get rules s.inner ≡ Some inner
  pub outer_numbered : slice_get rules s.outer ≡ Some outer
  pub replaced : replaced_at s.place outer.left (renamed_apart inner).right ≡ Some reduct
  pub top_is : top ≡ apply unifier outer.left
  pub left_is : left ≡ apply unifier reduct
  pub right_is : right ≡ apply unifier outer.right

-- the ids of the results of the peak at the spot, with new numbers for their variables
pub record ArePooledResults (rules : List RewriteRule) (s : Spot) (unifier : ℕ → Tree) (pool : List Tree) (pair : PeakPair) : Type 0 where
  pub left_there : pair.left < length pool
  pub right_there : pair.right < length pool
  pub renumbered : (top left right : Tree) → ArePeakInstances rules s unifier top left right
      → AreRenumbered top left right (in_order top) (tree_at pool pair.left) (tree_at pool pair.right)
