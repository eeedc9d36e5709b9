use Rattle.std.proofs.Common.{◌≡◌, ◌++◌, drop}
use Rattle.dp_graph.specs.GroupOrSingle.{items_of, groups_of}
use Rattle.cert_step.specs.GraphKind.{group_problems}
use Rattle.cert_step.specs.Subproblems.{problems_of}
use Rattle.cert_step.proofs.known.groups.Given as goal

abbrev pub invariant-loop-item : goal.invariant-loop-item
invariant-loop-item l =
    problems_of l.problems ++ group_problems (groups_of (items_of (drop l.item-index l.items))) ≡ group_problems (groups_of (items_of l.items))
