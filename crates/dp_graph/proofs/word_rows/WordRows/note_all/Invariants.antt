use Rattle.std.proofs.Common.{◌≡◌}
use Rattle.dp_graph.proofs.word_rows.WordRows.note_all.Given as goal

abbrev pub invariant-loop-n : goal.invariant-loop-n
invariant-loop-n l = l.self.rows ≡ l.fn.self.rows
