-- The terms of a pool by their numbers, which are called ids.
use Rattle.std.specs.Prelude.{◌≡◌, ◌≤◌, ℕ, List, Some, length, slice_get, slice_index_or}
use Rattle.trs_defs.specs.Tree.{Tree, var}

-- the id is there, and its term is this one
abbrev pub StandsFor : List Tree → ℕ → Tree → Type 0
StandsFor pool id t = slice_get pool id ≡ Some t

-- the term of an id that is there
abbrev pub tree_at : List Tree → ℕ → Tree
tree_at pool id = slice_index_or pool id (var 0)

-- equal terms have one id
pub record AreDistinct (pool : List Tree) : Type 0 where
  pub same : (i j : ℕ) (t : Tree) → StandsFor pool i t → StandsFor pool j t → i ≡ j

-- the ids that were there keep their terms
pub record Extends (old new : List Tree) : Type 0 where
  pub longer : length old ≤ length new
  pub kept : (i : ℕ) (t : Tree) → StandsFor old i t → StandsFor new i t
