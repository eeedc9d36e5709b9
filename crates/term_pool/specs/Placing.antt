-- Terms with another subterm at a position.
use Rattle.std.specs.Prelude.{◌≡◌, ◌<◌, ◌≤◌, ℕ, ◌+◌, List, Some, false, IsTrue, length}
use Rattle.trs_defs.specs.Tree.{Tree}
use Rattle.trs_defs.specs.Size.{size_of, within_limits}
use Rattle.trs_defs.specs.Position.{replaced_at}
use Rattle.term_pool.specs.Pooled.{tree_at}

-- the position is in the id's term, where the other id's term can be put
pub record HasPut (pool : List Tree) (p : List ℕ) (id by : ℕ) : Type 0 where
  pub result : Tree
  pub put : replaced_at p (tree_at pool id) (tree_at pool by) ≡ Some result

-- the term with another subterm at the position has this id; it keeps the limits, and took at most as many ids as it has nodes
pub record IsPlaced (p : List ℕ) (t by : Tree) (old new : List Tree) (id : ℕ) : Type 0 where
  pub put : replaced_at p t by ≡ Some (tree_at new id)
  pub there : id < length new
  pub limits : IsTrue (within_limits (tree_at new id))
  pub few : length new ≤ length old + size_of (tree_at new id)

-- the term with another subterm at the position passes the limits
pub record IsTooLargePut (p : List ℕ) (t by : Tree) : Type 0 where
  pub result : Tree
  pub put : replaced_at p t by ≡ Some result
  pub large : within_limits result ≡ false
