use Rattle.std.proofs.Common.{ℕ, ◌≡◌, ◌⊎◌, ◌+◌, ◌*◌, ◌-◌, ◌≤◌, length}
use Rattle.io_edge.specs.Telling.{Gives}
use Rattle.io_edge.proofs.file_shelf.read_to_limit.Given as goal

abbrev pub invariant-loop-file : goal.invariant-loop-file
invariant-loop-file g l = record {
  bound : length l.text.items ≤ l.limit + 1;
  given : Gives (g.F.Source.left l.fn.file) l.text.items (g.F.Source.left l.file);
  chunks : ((chunks : ℕ) × (length l.text.items ≡ chunks * 4096)) ⊎ (length l.text.items ≡ l.limit + 1);
}

abbrev pub decreases-loop-file : goal.decreases-loop-file
decreases-loop-file g l = (l.limit + 1) - length l.text.items
