use Rattle.std.proofs.Common.{take}
use Rattle.program_edge.proofs.Splitting.{HasNoFeed}
use Rattle.program_edge.proofs.pieces.first_line.Given as goal

abbrev pub invariant-loop-i : goal.invariant-loop-i
invariant-loop-i l = HasNoFeed (take l.i l.text)
