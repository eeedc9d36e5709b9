-- Sides of peaks that keep the limits on computed terms.
use Rattle.std.specs.Prelude.{◌<◌, ℕ, List, IsTrue, length}
use Rattle.trs_defs.specs.Member.{In}
use Rattle.trs_defs.specs.Tree.{Tree}
use Rattle.trs_defs.specs.Size.{within_limits}
use Rattle.term_pool.specs.Pooled.{tree_at}
use Rattle.term_pool.specs.Redexes.{IsNarrow}
use Rattle.rewrite_core.specs.PlacedPeak.{PlacedPeak}

-- the term keeps the limits, and no symbol of it has more than 255 arguments
pub record IsSide (t : Tree) : Type 0 where
  pub small : IsTrue (within_limits t)
  pub narrow : IsNarrow t

pub record HasSides (peak : PlacedPeak) : Type 0 where
  pub left : IsSide peak.left
  pub right : IsSide peak.right

-- each peak has such sides
abbrev pub HaveSides : List PlacedPeak → Type 0
HaveSides peaks = (peak : PlacedPeak) → In peak peaks → HasSides peak

-- the id is there, and its term is such a side
pub record IsSideAt (pool : List Tree) (id : ℕ) : Type 0 where
  pub there : id < length pool
  pub side : IsSide (tree_at pool id)
