-- How the entries of a pool stand for its terms.
use Rattle.std.specs.Prelude.{◌≡◌, ◌<◌, ◌-◌, ◌^◌, ℕ, min, List, [], ◌∷◌, ◌++◌, Some, length, slice_get}
use Rattle.trs_defs.specs.Tree.{Tree}
use Rattle.trs_defs.specs.Size.{size_of, depth_of}
use Rattle.term_pool.specs.Pooled.{AreDistinct, StandsFor}
use Rattle.term_pool.specs.Nodes.{StandsBelow, node_tree}
use Rattle.term_pool.specs.declared.nodes.Node.{Node}
use Rattle.term_pool.specs.declared.nodes.Measure.{Measure}

-- the terms of the entries, each over these terms and the terms before it
abbrev pub trees_over : List Tree → List (Node × Measure) → List Tree
trees_over ts [] = []
trees_over ts (e ∷ es) = node_tree ts e.0 ∷ trees_over (ts ++ node_tree ts e.0 ∷ []) es

-- the terms of the entries, by their numbers
abbrev pub pool_trees : List (Node × Measure) → List Tree
pool_trees es = trees_over [] es

-- the size and the depth of the term, each at most 2^32 - 1
pub record IsMeasure (t : Tree) (m : Measure) : Type 0 where
  pub size : m.size ≡ min (size_of t) (2 ^ 32 - 1)
  pub depth : m.depth ≡ min (depth_of t) (2 ^ 32 - 1)

-- each node stands over earlier ones, each measure is right, no term has two ids, and the ids fit
pub record IsPool (es : List (Node × Measure)) : Type 0 where
  pub below : (i : ℕ) (e : Node × Measure) → slice_get es i ≡ Some e → StandsBelow i e.0
  pub measured : (i : ℕ) (e : Node × Measure) (t : Tree) → slice_get es i ≡ Some e → StandsFor (pool_trees es) i t → IsMeasure t e.1
  pub distinct : AreDistinct (pool_trees es)
  pub few : length es < 2 ^ 32
