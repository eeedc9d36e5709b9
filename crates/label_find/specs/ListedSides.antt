-- What is kept of the sides of peaks.
use Rattle.std.specs.Prelude.{◌≡◌, ◌<◌, ◌++◌, ℕ, nat_eq, List, All, Option, Some, length, slice_get}
use Rattle.indexmap.specs.IndexMap.{get}
use Rattle.trs_defs.specs.Tree.{Tree}
use Rattle.trs_defs.specs.System.{RewriteRule}
use Rattle.term_pool.specs.Pooled.{tree_at}
use Rattle.term_pool.specs.ListedIds.{listed_at}
use Rattle.join_find.specs.KeptLists.{list_of, AreOf}
use Rattle.path_lists.specs.Adding.{Entry}
use Rattle.path_lists.specs.PathList.{IsPathList}
use Rattle.path_lists.specs.KnownEnds.{AreKnownEnds}
use Rattle.label_find.specs.declared.listed_sides.ListedSides.{ListedSides}
use Rattle.label_find.specs.declared.side_rules.SideRules.{SideRules}
use Rattle.label_find.specs.RuleList.{AreShort}
use Rattle.label_find.specs.SideRules.{IsSideOf}
use Rattle.term_pool.specs.Crossing.{AreKnownIds}

-- the list is that of the paths from the id's term
pub record IsPathsOf (rules : List RewriteRule) (pool : List Tree) (id : ℕ) (found : List Entry) : Type 0 where
  pub there : id < length pool
  pub list : IsPathList rules (tree_at pool id) (listed_at pool found)
  pub below : All (λ e. e.0 < length pool) found

-- the lists are those of the pool as it is, and so are the ids that are known for those of another pool, and what is known of ends
pub record AreListed (rules : List RewriteRule) (from : List Tree) (sides : ListedSides) : Type 0 where
  pub lists : AreOf (IsPathsOf rules sides.pool) sides.lists
  pub known : AreKnownIds from sides.pool sides.known
  pub ends : AreKnownEnds rules sides.pool sides.ends

-- no path of the lists has more than 4 steps
pub record HaveShortPaths (sides : ListedSides) : Type 0 where
  pub each : AreOf (λ id found. AreShort found) sides.lists

-- the number of an id in the table of sides
abbrev pub number_of : ListedSides → ℕ → Option ℕ
number_of sides id = get nat_eq sides.numbers id

-- the side of this number in the table is of the paths that are listed of the id
pub record IsNumbered (sides : ListedSides) (table : List SideRules) (id number : ℕ) : Type 0 where
  pub paths : List Entry
  pub side : SideRules
  pub listed : list_of sides.lists id ≡ Some paths
  pub there : slice_get table number ≡ Some side
  pub of_paths : IsSideOf paths side

pub record AreNumbered (sides : ListedSides) (table : List SideRules) : Type 0 where
  pub each : (id number : ℕ) → number_of sides id ≡ Some number → IsNumbered sides table id number

-- the pool, the known ids, what is known of ends, and the lists are the same
pub record HasSameLists (old new : ListedSides) : Type 0 where
  pub pool : new.pool ≡ old.pool
  pub known : new.known ≡ old.known
  pub ends : new.ends ≡ old.ends
  pub lists : new.lists ≡ old.lists

-- the table begins with the other one
pub record IsFrontOf (old new : List SideRules) : Type 0 where
  pub more : List SideRules
  pub is : new ≡ old ++ more
