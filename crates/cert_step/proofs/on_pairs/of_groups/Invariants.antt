use Rattle.std.proofs.Common.{◌≡◌, ◌++◌}
use Rattle.std.specs.Vec.Iter.{into_iter_items}
use Rattle.dp_graph.specs.GraphConditions.{lists_of}
use Rattle.cert_step.specs.GraphKind.{group_problems}
use Rattle.cert_step.specs.Subproblems.{problems_of}
use Rattle.cert_step.proofs.on_pairs.of_groups.Given as goal

abbrev pub invariant-loop-group : goal.invariant-loop-group
invariant-loop-group l =
    problems_of l.problems ++ group_problems (lists_of (into_iter_items l.group-iterator)) ≡ group_problems (lists_of l.fn.groups.items)
