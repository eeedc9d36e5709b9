use Rattle.std.proofs.Common.{◌-◌}
use Rattle.dp_core.specs.Flags.{unset}
use Rattle.dp_graph.specs.GraphConditions.{lists_of}
use Rattle.dp_graph.proofs.FoundLaws.{IsCollecting}
use Rattle.dp_graph.proofs.collecting.collect.Given as goal

abbrev pub invariant-loop-i : goal.invariant-loop-i
invariant-loop-i l = IsCollecting (lists_of l.rows) l.fn.flags.items l.start l.flags.items l.found.items l.i

abbrev pub decreases-loop-i : goal.decreases-loop-i
decreases-loop-i l = unset l.fn.flags.items - l.i
