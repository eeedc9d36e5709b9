use Rattle.std.proofs.Common.{◌≡◌, take}
use Rattle.dp_graph.specs.GroupOrSingle.{items_of, groups_of}
use Rattle.dp_graph.specs.GraphConditions.{lists_of}
use Rattle.dp_graph.proofs.singles.groups.Given as goal

abbrev pub invariant-loop-item : goal.invariant-loop-item
invariant-loop-item l = lists_of l.groups.items ≡ groups_of (items_of (take l.item-index l.items))
