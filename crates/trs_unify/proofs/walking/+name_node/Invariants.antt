use Rattle.std.proofs.Common.{◌≡◌, map, drop}
use Rattle.trs_defs.specs.Tree.{trees}
use Rattle.trs_defs.specs.Variable.{with_variables, with_variables_of_all}
use Rattle.trs_unify.specs.Renamed.{AreNames}
use Rattle.trs_unify.specs.Shared.{shared_trees, tree_at}
use Rattle.trs_unify.specs.Walked.{AreWalked}
use Rattle.trs_unify.proofs.walking.+name_node.Given as goal

abbrev pub invariant-loop-arg : goal.invariant-loop-arg
invariant-loop-arg l = record {
  names : AreNames l.names.numbers l.names.order.items;
  walked : AreWalked l.nodes l.marks l.names.order.items;
  order : with_variables_of_all l.names.order.items (trees (map (tree_at (shared_trees l.nodes)) (drop l.arg-index l.arg-items))) ≡ with_variables l.fn.names.order.items (tree_at (shared_trees l.nodes) l.i);
}

abbrev pub decreases-name_node : goal.decreases-name_node
decreases-name_node l = l.i
