-- What a search has reached: a list of ids, and the set of them.
use Rattle.std.specs.Prelude.{◌≡◌, ◌<◌, ◌↔◌, ℕ, List, [], ◌∷◌, length, slice_get, Some, All, IsTrue}
use Rattle.std.specs.Ordering.{nat_cmp}
use Rattle.std.specs.BTreeSet.{BTreeSet, contains}
use Rattle.std.specs.Global.{Vec}
use Rattle.trs_defs.specs.Member.{In}
use Rattle.trs_defs.specs.Tree.{Tree}
use Rattle.trs_defs.specs.Path.{PlacedRule}
use Rattle.term_pool.specs.ListedIds.{ids_of}
use Rattle.term_pool.specs.declared.reached.Reached.{Reached}

-- the set has no id from n on
abbrev pub AreBelow : ℕ → BTreeSet ℕ → Type 0
AreBelow n ids = (i : ℕ) → IsTrue (contains nat_cmp ids i) → i < n

-- the ids of the list are there, and the set has them and no others
pub record IsReached (pool : List Tree) (r : Reached) : Type 0 where
  pub below : All (λ e. e.0 < length pool) r.list.items
  pub known : (i : ℕ) → IsTrue (contains nat_cmp r.ids i) ↔ In i (ids_of r.list.items)

-- one id with the empty path
pub record Begins (id : ℕ) (r : Reached) : Type 0 where
  pub path : Vec PlacedRule
  pub empty : path.items ≡ []
  pub list : r.list.items ≡ (id, path) ∷ []
  pub known : (i : ℕ) → IsTrue (contains nat_cmp r.ids i) ↔ In i (id ∷ [])

-- the id and the path are those at this place
pub record IsEntry (r : Reached) (i : ℕ) (e : ℕ × Vec PlacedRule) : Type 0 where
  pub entry : ℕ × Vec PlacedRule
  pub there : slice_get r.list.items i ≡ Some entry
  pub id : e.0 ≡ entry.0
  pub path : e.1.items ≡ entry.1.items
