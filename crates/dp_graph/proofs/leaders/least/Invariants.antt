use Rattle.std.proofs.Common.{ℕ, ◌≤◌, take}
use Rattle.trs_defs.specs.Member.{In}
use Rattle.dp_graph.proofs.leaders.least.Given as goal

abbrev pub invariant-loop-w : goal.invariant-loop-w
invariant-loop-w l = record {
  there : In l.least l.places;
  low : (w : ℕ) → In w (take l.w-index l.places) → l.least ≤ w;
}
