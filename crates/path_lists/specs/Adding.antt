-- What adds paths to a list that ends at 256.
use Rattle.std.specs.Prelude.{◌≡◌, ◌<◌, ◌≤◌, ℕ, ◌+◌, ◌-◌, ◌*◌, false, List, ◌++◌, All, Some, length, slice_get, take, IsTrue}
use Rattle.std.specs.Global.{Vec}
use Rattle.trs_defs.specs.Tree.{Tree}
use Rattle.trs_defs.specs.Size.{size_of}
use Rattle.trs_defs.specs.System.{RewriteRule}
use Rattle.trs_defs.specs.Path.{PlacedRule, StepsAt, Follows}
use Rattle.term_pool.specs.Pooled.{tree_at}
use Rattle.term_pool.specs.Listed.{Listed}
use Rattle.term_pool.specs.ListedIds.{listed, listed_at}
use Rattle.term_pool.specs.Redexes.{IsNarrow}
use Rattle.term_pool.specs.Reach.{is_kept}
use Rattle.path_lists.specs.declared.room.Room.{Room}

-- an id with a path to its term
abbrev pub Entry : Type 0
Entry = ℕ × Vec PlacedRule

-- the id and the path are those at this place
pub record IsEntryAt (paths : List Entry) (i : ℕ) (e : Entry) : Type 0 where
  pub entry : Entry
  pub there : slice_get paths i ≡ Some entry
  pub id : e.0 ≡ entry.0
  pub path : e.1.items ≡ entry.1.items

-- the most ids that there are once 256 paths are listed
abbrev pub most_ids : List Tree → List Entry → ℕ
most_ids pool paths = length pool + (256 - length paths) * 4096

-- candidates of this kind stand behind the list, as far as it goes
pub record AddsPaths (kind : List Listed → Type 0) (old new : List Tree) (before after : List Entry) : Type 0 where
  pub candidates : List Listed
  pub are_candidates : kind candidates
  pub longer : listed_at new after ≡ take 256 (listed_at old before ++ candidates)
  pub below : All (λ e. e.0 < length new) after
  pub few : length after ≤ 256
  pub room : most_ids new after ≤ most_ids old before

-- from the end of a path of fewer than 4 steps, steps lead to terms of at most 4,096 nodes
pub record KeepsSmall (rules : List RewriteRule) (e : Listed) : Type 0 where
  pub small : length e.path < 4 → (s : PlacedRule) (u : Tree) → StepsAt rules s.place s.rule e.term u → size_of u ≤ 4096

-- the path leads here from a term of at most so many nodes
pub record LeadsFrom (rules : List RewriteRule) (nodes : ℕ) (e : Listed) : Type 0 where
  pub start : Tree
  pub small : size_of start ≤ nodes
  pub follows : Follows rules e.path start e.term

-- an entry from which paths go on: its term is narrow, and how small the next terms are is known so far
pub record GoesOn (rules : List RewriteRule) (room : Room) (pool : List Tree) (e : Entry) : Type 0 where
  pub narrow : IsNarrow (tree_at pool e.0)
  pub sure : IsTrue room.is_sure → KeepsSmall rules (listed pool e)
  pub from : LeadsFrom rules room.start (listed pool e)

-- the id is the result of the step, which is small enough; at most 4,096 ids were added
pub record IsKeptEnd (rules : List RewriteRule) (s : PlacedRule) (t : Tree) (old new : List Tree) (id : ℕ) : Type 0 where
  pub steps : StepsAt rules s.place s.rule t (tree_at new id)
  pub small : IsTrue (is_kept 4096 (tree_at new id))
  pub there : id < length new
  pub few : length new ≤ length old + 4096

-- the result of the step is too large
pub record IsLeftOut (rules : List RewriteRule) (s : PlacedRule) (t : Tree) : Type 0 where
  pub result : Tree
  pub steps : StepsAt rules s.place s.rule t result
  pub large : is_kept 4096 result ≡ false
