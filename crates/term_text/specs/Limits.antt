-- The limits on terms, as items write them.
use Rattle.std.specs.Prelude.{ℕ, ◌+◌, ◌-◌, max, ◌&&◌, nat_le, Bool, Option, Some, None, if◌then◌else◌}
use Rattle.sexp_core.specs.Items.{Item, a_word, a_list, Items, no_items, item}

-- the nodes of a term as it is written; `(c)` is one node
abbrev mutual
  pub nodes_of : Item → ℕ
  nodes_of (a_word w at) = 1
  nodes_of (a_list xs at) = 1 + nodes_behind xs

  pub nodes_behind : Items → ℕ
  nodes_behind no_items = 0
  nodes_behind (item head args) = nodes_of_all args

  pub nodes_of_all : Items → ℕ
  nodes_of_all no_items = 0
  nodes_of_all (item x xs) = nodes_of x + nodes_of_all xs

-- how many nodes are left where so many come; no number once there is no room for them
abbrev pub nodes_left : ℕ → Option ℕ → Option ℕ
nodes_left n None = None
nodes_left n (Some room) = if nat_le n room then Some (room - n) else None

-- the depth of a term as it is written; a word has depth 1
abbrev mutual
  pub depth_of : Item → ℕ
  depth_of (a_word w at) = 1
  depth_of (a_list xs at) = 1 + depth_behind xs

  pub depth_behind : Items → ℕ
  depth_behind no_items = 0
  depth_behind (item head args) = depth_of_all args

  pub depth_of_all : Items → ℕ
  depth_of_all no_items = 0
  depth_of_all (item x xs) = max (depth_of x) (depth_of_all xs)

-- at most 65,536 nodes, and at most 1,024 deep
abbrev pub keeps_limits : Item → Bool
keeps_limits x = nat_le (nodes_of x) 65536 && nat_le (depth_of x) 1024
