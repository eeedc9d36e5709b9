use Rattle.std.proofs.Common.{take}
use Rattle.dp_graph.specs.GraphConditions.{lists_of}
use Rattle.dp_graph.specs.Reversed.{AddsBack}
use Rattle.dp_graph.proofs.reversed.add_back.Given as goal

abbrev pub invariant-loop-j : goal.invariant-loop-j
invariant-loop-j l = AddsBack (take l.j-index l.row) l.i (lists_of l.fn.back.items) (lists_of l.back.items)
