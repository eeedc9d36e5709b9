use Rattle.std.proofs.Common.{take}
use Rattle.dp_graph.specs.GraphConditions.{lists_of}
use Rattle.dp_graph.specs.Waiting.{LooksAt, Other, OfRows}
use Rattle.dp_graph.proofs.waiting.Waiting.look_at_rows.Given as goal

abbrev pub invariant-loop-w : goal.invariant-loop-w
invariant-loop-w l = LooksAt l.fn.self l.self (Other l.v (OfRows (lists_of l.rows) l.leaders (take l.w-index l.places)))
