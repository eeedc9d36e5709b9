use Rattle.std.proofs.Common.{ℕ, List, ◌≡◌, ◌++◌, ◌-◌, ◌≤◌, length, vec_capacity}
use Rattle.io_edge.specs.Telling.{Gives}
use Rattle.io_edge.proofs.file_shelf.read_chunk.Given as goal

abbrev pub invariant-loop-chunk : goal.invariant-loop-chunk
invariant-loop-chunk g l = record {
  read : (bs : List ℕ) × (l.text.items ≡ l.fn.text.items ++ bs) × Gives (g.F.Source.left l.fn.file) bs (g.F.Source.left l.file);
  short : length l.text.items ≤ l.full;
  room : l.full ≤ vec_capacity l.text;
}

abbrev pub decreases-loop-chunk : goal.decreases-loop-chunk
decreases-loop-chunk g l = l.full - length l.text.items
