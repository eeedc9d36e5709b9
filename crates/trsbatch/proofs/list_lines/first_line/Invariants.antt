use Rattle.std.proofs.Common.{take}
use Rattle.trsbatch.specs.Cutting.{HasNoFeed}
use Rattle.trsbatch.proofs.list_lines.first_line.Given as goal

abbrev pub invariant-loop-i : goal.invariant-loop-i
invariant-loop-i l = HasNoFeed (take l.i l.text)
