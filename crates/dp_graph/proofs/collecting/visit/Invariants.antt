use Rattle.std.proofs.Common.{take}
use Rattle.trs_defs.specs.Member.{In}
use Rattle.dp_graph.specs.FoundPlaces.{Finds}
use Rattle.dp_graph.proofs.collecting.visit.Given as goal

abbrev pub invariant-loop-j : goal.invariant-loop-j
invariant-loop-j l = Finds (λ j. In j (take l.j-index l.row)) l.fn.flags.items l.flags.items l.fn.found.items l.found.items
