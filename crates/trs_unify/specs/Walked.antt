-- Nodes in shared form that were walked through for the variables of their terms.
use Rattle.std.specs.Prelude.{◌≡◌, ℕ, Bool, true, List, Some, IsTrue, length, slice_get}
use Rattle.trs_defs.specs.Variable.{has_var, is_listed}
use Rattle.trs_unify.specs.Shared.{shared_trees, tree_at}
use Rattle.trs_unify.specs.declared.shared.Node.{Node}

-- the order has each variable of each node that is marked
pub record AreWalked (nodes : List Node) (marks : List Bool) (order : List ℕ) : Type 0 where
  pub long : length marks ≡ length nodes
  pub listed : (i v : ℕ) → slice_get marks i ≡ Some true → IsTrue (has_var v (tree_at (shared_trees nodes) i)) → IsTrue (is_listed v order)
