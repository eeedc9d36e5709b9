-- What is known of the ends of paths.
use Rattle.std.specs.Prelude.{◌≡◌, ◌<◌, ℕ, List, All, Some, length, slice_get}
use Rattle.trs_defs.specs.Tree.{Tree}
use Rattle.trs_defs.specs.System.{RewriteRule}
use Rattle.trs_defs.specs.Path.{PlacedRule}
use Rattle.term_pool.specs.Pooled.{tree_at}
use Rattle.term_pool.specs.Listed.{Listed}
use Rattle.term_pool.specs.Redexes.{HasRedexes}
use Rattle.term_pool.specs.Known.{IsKnown}
use Rattle.path_lists.specs.Adding.{Entry, IsKeptEnd}
use Rattle.path_lists.specs.declared.known_ends.KnownEnds.{KnownEnds}
use Rattle.path_lists.specs.declared.reducts.Reducts.{Reducts}

-- each id is the result of the step at its place, which is small enough
abbrev pub AreKeptEnds : List RewriteRule → List Tree → Tree → List PlacedRule → List ℕ → Type 0
AreKeptEnds rules pool t steps ends = (i id : ℕ) (s : PlacedRule) → slice_get ends i ≡ Some id → slice_get steps i ≡ Some s → IsKeptEnd rules s t pool pool id

-- the steps are those at all redexes of the term, and the ids their results
pub record AreSmallReducts (rules : List RewriteRule) (pool : List Tree) (t : Tree) (reducts : Reducts) : Type 0 where
  pub redexes : HasRedexes rules t reducts.steps.items
  pub ends : AreKeptEnds rules pool t reducts.steps.items reducts.ends.items

-- the same of the term of an id that is there
pub record AreReductsAt (rules : List RewriteRule) (pool : List Tree) (id : ℕ) (reducts : Reducts) : Type 0 where
  pub there : id < length pool
  pub are : AreSmallReducts rules pool (tree_at pool id) reducts

-- the reducts that are noted are those of the pool as it is; and what else is known is so
pub record AreKnownEnds (rules : List RewriteRule) (pool : List Tree) (ends : KnownEnds) : Type 0 where
  pub reducts : All (λ e. AreReductsAt rules pool e.0 e.1) ends.noted.items
  pub known : IsKnown rules pool ends.known

-- an entry of fewer than 4 steps, with the reducts of its term; and the ids of the list are there
pub record LeadsOn (rules : List RewriteRule) (pool : List Tree) (paths : List Entry) (e : Listed) (reducts : Reducts) : Type 0 where
  pub short : length e.path < 4
  pub are : AreSmallReducts rules pool e.term reducts
  pub below : All (λ x. x.0 < length pool) paths
