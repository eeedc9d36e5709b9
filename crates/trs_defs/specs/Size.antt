-- The size and the depth of a term, and the limits on computed terms.
use Rattle.std.specs.Prelude.{ℕ, ◌+◌, max, Bool, ◌&&◌, nat_le}
use Rattle.trs_defs.specs.Tree.{Tree, Trees, var, app, nil, cons}

-- the number of nodes
abbrev mutual
  pub size_of : Tree → ℕ
  size_of (var n) = 1
  size_of (app f ts) = 1 + size_of_all ts

  pub size_of_all : Trees → ℕ
  size_of_all nil = 0
  size_of_all (cons t ts) = size_of t + size_of_all ts

-- the number of nodes on the longest branch
abbrev mutual
  pub depth_of : Tree → ℕ
  depth_of (var n) = 1
  depth_of (app f ts) = 1 + depth_of_all ts

  pub depth_of_all : Trees → ℕ
  depth_of_all nil = 0
  depth_of_all (cons t ts) = max (depth_of t) (depth_of_all ts)

-- what a computed term may have: 65,536 nodes and depth 1,024
abbrev pub within_limits : Tree → Bool
within_limits t = nat_le (size_of t) 65536 && nat_le (depth_of t) 1024
