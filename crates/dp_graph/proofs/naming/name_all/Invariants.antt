use Rattle.std.proofs.Common.{ℕ, List, [], take}
use Rattle.dp_graph.specs.GroupOrSingle.{items_of, all_members}
use Rattle.dp_graph.specs.Unnamed.{AreUnnamed}
use Rattle.dp_graph.proofs.UnnamedPairs.{ItemsNamed}
use Rattle.dp_graph.proofs.naming.name_all.Given as goal

abbrev pub invariant-loop-item : goal.invariant-loop-item
invariant-loop-item l = record {
  passed : (numbers : List ℕ) → AreUnnamed numbers [] l.fn.left → ItemsNamed numbers l.items l.item-index;
  unnamed : (numbers : List ℕ) → AreUnnamed numbers [] l.fn.left → AreUnnamed numbers (all_members (items_of (take l.item-index l.items))) l.left;
}
