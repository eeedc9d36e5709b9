-- What each part of a search adds.
use Rattle.std.specs.Prelude.{◌≡◌, ◌<◌, ◌≤◌, ◌⊎◌, ℕ, ◌+◌, ◌-◌, ◌*◌, false, List, length, IsTrue}
use Rattle.std.specs.Ordering.{nat_cmp}
use Rattle.std.specs.BTreeSet.{BTreeSet, contains}
use Rattle.trs_defs.specs.Tree.{Tree}
use Rattle.trs_defs.specs.Size.{size_of, within_limits}
use Rattle.trs_defs.specs.System.{RewriteRule}
use Rattle.trs_defs.specs.Path.{PlacedRule, StepsAt}
use Rattle.term_pool.specs.Pooled.{AreDistinct, StandsFor, tree_at}
use Rattle.term_pool.specs.Listed.{Listed}
use Rattle.term_pool.specs.ListedIds.{listed_at}
use Rattle.term_pool.specs.Reach.{ListsOn, is_kept}
use Rattle.term_pool.specs.Reached.{IsReached}
use Rattle.term_pool.specs.declared.reached.Reached.{Reached}

-- the most ids that there are once the list is full
abbrev pub most_ids : ℕ → ℕ → List Tree → Reached → ℕ
most_ids limit size pool r = length pool + (limit - length r.list.items) * size

-- some candidates of this kind were gone through, with the old list before them and the new one after them
abbrev pub ListsMore : ℕ → (List Listed → Type 0) → List Listed → List Listed → Type 0
ListsMore limit kind old new = (cs : List Listed) × kind cs × ListsOn limit old cs new

-- candidates of this kind were gone through, and each that was listed took at most `size` ids
pub record Adds (limit size : ℕ) (kind : List Listed → Type 0) (old new : List Tree) (before after : Reached) : Type 0 where
  pub lists : ListsMore limit kind (listed_at old before.list.items) (listed_at new after.list.items)
  pub reached : IsReached new after
  pub room : most_ids limit size new after ≤ most_ids limit size old before

-- the id is the result of a step, which keeps the limits; at most as many ids were added as it has nodes
pub record IsReduct (rules : List RewriteRule) (s : PlacedRule) (t : Tree) (old new : List Tree) (id : ℕ) : Type 0 where
  pub steps : StepsAt rules s.place s.rule t (tree_at new id)
  pub limits : IsTrue (within_limits (tree_at new id))
  pub there : id < length new
  pub few : length new ≤ length old + size_of (tree_at new id)

-- the id is the result of a step, which is small enough, and not in the set; at most `size` ids were added
pub record IsNewReduct (rules : List RewriteRule) (size : ℕ) (s : PlacedRule) (t : Tree) (ids : BTreeSet ℕ) (old new : List Tree) (id : ℕ) : Type 0 where
  pub steps : StepsAt rules s.place s.rule t (tree_at new id)
  pub small : IsTrue (is_kept size (tree_at new id))
  pub there : id < length new
  pub unknown : contains nat_cmp ids id ≡ false
  pub few : length new ≤ length old + size
  pub distinct : AreDistinct new

-- the result of a step is too large, or an id of the set stands for it
pub record IsPassedOver (rules : List RewriteRule) (size : ℕ) (s : PlacedRule) (t : Tree) (ids : BTreeSet ℕ) (pool : List Tree) : Type 0 where
  pub result : Tree
  pub steps : StepsAt rules s.place s.rule t result
  pub why : (is_kept size result ≡ false) ⊎ ((i : ℕ) × IsTrue (contains nat_cmp ids i) × StandsFor pool i result)
