use Rattle.std.proofs.Common.{take}
use Rattle.dp_graph.specs.Waiting.{LooksAt, Other, OfRow}
use Rattle.dp_graph.proofs.waiting.Waiting.look_at_row.Given as goal

abbrev pub invariant-loop-j : goal.invariant-loop-j
invariant-loop-j l = LooksAt l.fn.self l.self (Other l.v (OfRow l.leaders (take l.j-index l.row)))
