-- What is kept of the sides of peaks.
use Rattle.std.specs.Prelude.{◌<◌, ℕ, List, All, length}
use Rattle.trs_defs.specs.Tree.{Tree}
use Rattle.trs_defs.specs.System.{RewriteRule}
use Rattle.term_pool.specs.Pooled.{tree_at}
use Rattle.term_pool.specs.Redexes.{IsNarrow}
use Rattle.term_pool.specs.ListedIds.{listed_at}
use Rattle.term_pool.specs.Crossing.{AreKnownIds}
use Rattle.term_pool.specs.Known.{IsKnown}
use Rattle.join_find.specs.CommonIds.{Reached}
use Rattle.join_find.specs.NewmanRow.{IsReach}
use Rattle.join_find.specs.Near.{IsSiftedNear}
use Rattle.join_find.specs.KeptLists.{AreOf}
use Rattle.join_find.specs.declared.reached_sides.ReachedSides.{ReachedSides}

-- the id is there, and no symbol of its term has more than 255 arguments
pub record IsNarrowAt (pool : List Tree) (id : ℕ) : Type 0 where
  pub there : id < length pool
  pub narrow : IsNarrow (tree_at pool id)

-- the list is what the id's term reaches
pub record IsReachOf (rules : List RewriteRule) (pool : List Tree) (id : ℕ) (found : List Reached) : Type 0 where
  pub there : id < length pool
  pub reach : IsReach rules (tree_at pool id) (listed_at pool found)
  pub below : All (λ e. e.0 < length pool) found

-- the list is sifted from the id's term and its reducts
pub record IsNearOf (rules : List RewriteRule) (pool : List Tree) (id : ℕ) (found : List Reached) : Type 0 where
  pub near : IsSiftedNear rules (tree_at pool id) pool found

-- the lists are those of the pool as it is, and what is known of its ids is right
pub record AreReached (rules : List RewriteRule) (sides : ReachedSides) : Type 0 where
  pub reached : AreOf (IsReachOf rules sides.pool) sides.reached
  pub near : AreOf (IsNearOf rules sides.pool) sides.near
  pub known : IsKnown rules sides.pool sides.known

-- what is known of ids of another pool is right
abbrev pub HasKnownIds : List Tree → ReachedSides → Type 0
HasKnownIds from sides = AreKnownIds from sides.pool sides.known_ids
