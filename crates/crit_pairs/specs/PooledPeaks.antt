-- Critical peaks whose sides have ids in a pool of their own.
use Rattle.std.specs.Prelude.{◌≡◌, ◌≤◌, ◌<◌, ℕ, List, Ok, length, take}
use Rattle.trs_defs.specs.Tree.{Tree}
use Rattle.trs_defs.specs.System.{RewriteRule}
use Rattle.term_pool.specs.Pooled.{tree_at}
use Rattle.rewrite_core.specs.PlacedPeak.{PlacedPeak}
use Rattle.crit_pairs.specs.PeaksCheck.{ListsCriticalPeaks}
use Rattle.crit_pairs.specs.Table.{ArePairs}
use Rattle.crit_pairs.specs.declared.table.PeakPair.{PeakPair}
use Rattle.crit_pairs.specs.declared.pooled.PooledPeaks.{PooledPeaks}

-- there is a tree for the id
abbrev pub HasId : PooledPeaks → ℕ → Type 0
HasId pooled id = id < length pooled.pool

-- the tree that the id stands for
abbrev pub tree_of : PooledPeaks → ℕ → Tree
tree_of pooled id = tree_at pooled.pool id

-- the ids that were there stand for the same trees
abbrev pub KeepsIds : PooledPeaks → PooledPeaks → Type 0
KeepsIds old new = (id : ℕ) → HasId old id → HasId new id × (tree_of new id ≡ tree_of old id)

-- how many peaks there are
abbrev pub count_of : PooledPeaks → ℕ
count_of pooled = length pooled.pairs.items

-- they are these peaks, and the ids of their sides are never given up
pub record HoldsPeaks (peaks : List PlacedPeak) (pooled : PooledPeaks) : Type 0 where
  pub count : count_of pooled ≡ length peaks
  pub within : pooled.base ≤ length pooled.pool
  pub stand : ArePairs (take pooled.base pooled.pool) pooled.pairs.items peaks

-- they are all critical peaks of the rules
pub record ArePooled (rules : List RewriteRule) (pooled : PooledPeaks) : Type 0 where
  pub peaks : List PlacedPeak
  pub lists : ListsCriticalPeaks rules (Ok peaks)
  pub held : HoldsPeaks peaks pooled

-- the ids of the pair stand for the two sides of the peak
pub record AreSides (pooled : PooledPeaks) (pair : PeakPair) (p : PlacedPeak) : Type 0 where
  pub left_there : HasId pooled pair.left
  pub left : tree_of pooled pair.left ≡ p.left
  pub right_there : HasId pooled pair.right
  pub right : tree_of pooled pair.right ≡ p.right
