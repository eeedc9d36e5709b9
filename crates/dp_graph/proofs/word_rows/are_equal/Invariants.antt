use Rattle.std.proofs.Common.{◌≡◌, take}
use Rattle.dp_graph.proofs.word_rows.are_equal.Given as goal

abbrev pub invariant-loop-i : goal.invariant-loop-i
invariant-loop-i l = take l.i l.xs ≡ take l.i l.ys
