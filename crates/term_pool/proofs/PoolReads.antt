-- What is read of a pool's entries.
use Rattle.std.proofs.Common.{◌≡◌, ℕ, ◌<◌, List, length, Some, None, ap, sym, ◌∙◌, arith, slice_get, get_or}
use Rattle.std.proofs.lemmas.Option.{slice_get-get_or}
use Rattle.trs_defs.specs.Tree.{Tree}
use Rattle.term_pool.specs.declared.nodes.Node.{Node}
use Rattle.term_pool.specs.declared.nodes.Node.TheVariants.{Var}
use Rattle.term_pool.specs.declared.nodes.Measure.{Measure}
use Rattle.term_pool.specs.Pooled.{StandsFor, tree_at}
use Rattle.term_pool.specs.Nodes.{node_tree}
use Rattle.term_pool.specs.Entries.{pool_trees, IsPool, IsMeasure}
use Rattle.term_pool.proofs.PoolTrees.{length_pool, node_stands, stands_at}

no_item : {X : Type 0} (xs : List X) (i : ℕ) (d : X) → i < length xs → None ≡ slice_get xs i → ⊥
no_item xs i d h e = let there : slice_get xs i ≡ Some (get_or xs i d) = slice_get-get_or xs i d h in absurd cc

module _ (es : List (Node × Measure)) (view : List Tree) (pool : IsPool es) (is : pool_trees es ≡ view) where
  pub same_length : length es ≡ length view
  same_length = sym (length_pool es) ∙ ap length is

  pub always_there : (id : ℕ) → id < length view → None ≡ slice_get es id → ⊥
  always_there id h e = no_item es id (Var 0, record { size = 0; depth = 0 }) (omega (arith, h, same_length)) e

  module _ (id : ℕ) (e : Node × Measure) (there : Some e ≡ slice_get es id) where
    pub reads : StandsFor view id (node_tree view e.0)
    reads = rw (← is) (node_stands es id e pool (sym there))

    pub measures : IsMeasure (tree_at view id) e.1
    measures =
        let at : StandsFor (pool_trees es) id (node_tree (pool_trees es) e.0) = node_stands es id e pool (sym there) in
        let same : tree_at (pool_trees es) id ≡ node_tree (pool_trees es) e.0 = stands_at (pool_trees es) id (node_tree (pool_trees es) e.0) at in
        rw (← is, same) (pool.measured id e (node_tree (pool_trees es) e.0) (sym there) at)
