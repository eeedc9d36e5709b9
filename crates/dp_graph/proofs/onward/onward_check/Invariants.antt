use Rattle.std.proofs.Common.{◌<◌, length, take}
use Rattle.dp_graph.specs.GroupOrSingle.{items_of, all_members}
use Rattle.dp_graph.specs.EarlierPairs.{IsEarlier}
use Rattle.dp_graph.proofs.OnwardItems.{OnwardSoFar}
use Rattle.dp_graph.proofs.onward.onward_check.Given as goal

abbrev pub invariant-loop-i : goal.invariant-loop-i
invariant-loop-i l = record {
  passed : OnwardSoFar l.graph l.items l.i;
  kept : l.i < length l.items → IsEarlier l.graph (all_members (items_of (take l.i l.items))) l.earlier;
}
