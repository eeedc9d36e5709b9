-- Nodes over the terms of a pool.
use Rattle.std.specs.Prelude.{◌<◌, ℕ, List, All, map}
use Rattle.trs_defs.specs.Tree.{Tree, var, app, trees}
use Rattle.term_pool.specs.Pooled.{tree_at}
use Rattle.term_pool.specs.declared.nodes.Node.{Node}
use Rattle.term_pool.specs.declared.nodes.Node.TheVariants.{Var, App}

-- the term of a node
abbrev pub node_tree : List Tree → Node → Tree
node_tree pool (Var v) = var v
node_tree pool (App f args) = app f (trees (map (tree_at pool) args.items))

-- the node stands over terms with numbers below n
abbrev pub StandsBelow : ℕ → Node → Type 0
StandsBelow n (Var v) = Unit {0}
StandsBelow n (App f args) = All (λ i. i < n) args.items
