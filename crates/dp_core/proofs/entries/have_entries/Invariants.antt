use Rattle.std.proofs.Common.{ℕ, ◌<◌, IsTrue}
use Rattle.dp_core.proofs.entries.have_entries.Given as goal

abbrev pub invariant-loop-f : goal.invariant-loop-f
invariant-loop-f g l = (k : ℕ) → k < l.f → IsTrue (g.O.ReductionPair.has l.order k)
