-- What is kept of the sides of peaks.
use Rattle.std.specs.Prelude.{◌<◌, ℕ, List, All, length}
use Rattle.trs_defs.specs.Tree.{Tree}
use Rattle.trs_defs.specs.System.{RewriteRule}
use Rattle.term_pool.specs.Pooled.{tree_at}
use Rattle.term_pool.specs.ListedIds.{listed_at}
use Rattle.join_find.specs.CommonIds.{Reached}
use Rattle.join_find.specs.KeptLists.{AreOf}
use Rattle.conf_find.specs.ForkRows.{IsShortReach}
use Rattle.conf_find.specs.Marks.{AreMarkedIds}
use Rattle.term_pool.specs.Crossing.{AreKnownIds}
use Rattle.term_pool.specs.Known.{IsKnown}
use Rattle.conf_find.specs.declared.reached_sides.ReachedSides.{ReachedSides}

-- the list is what the id's term reaches in few steps
pub record IsShortReachOf (rules : List RewriteRule) (pool : List Tree) (id : ℕ) (found : List Reached) : Type 0 where
  pub there : id < length pool
  pub reach : IsShortReach rules (tree_at pool id) (listed_at pool found)
  pub below : All (λ e. e.0 < length pool) found

-- the lists are those of the pool as it is, so are the ids that are known for those of another pool, and what is known of its ids is right
pub record AreReached (rules : List RewriteRule) (from : List Tree) (sides : ReachedSides) : Type 0 where
  pub reached : AreOf (IsShortReachOf rules sides.pool) sides.reached
  pub ids : AreKnownIds from sides.pool sides.known_ids
  pub known : IsKnown rules sides.pool sides.known

-- the marks are those of the pool as it is, and each id of a list has one
pub record AreMarksOf {A : Type 0} (has_mark : A → ℕ → Type 0) (of_pool : List RewriteRule → List Tree → A → Type 0) (rules : List RewriteRule) (sides : ReachedSides) (marks : A) : Type 0 where
  pub are : of_pool rules sides.pool marks
  pub each : AreOf (λ id found. AreMarkedIds has_mark marks found) sides.reached
