use Rattle.std.proofs.Common.{◌≤◌, length}
use Rattle.dp_graph.specs.GraphConditions.{lists_of}
use Rattle.dp_graph.proofs.RowLaws.{LedSoFar}
use Rattle.dp_graph.proofs.rows.rows.Given as goal

abbrev pub invariant-loop-i : goal.invariant-loop-i
invariant-loop-i l = record {
  low : l.i ≤ length l.problem;
  led : LedSoFar l.graph l.problem l.by_root (lists_of l.initial.rights.rows.items) l.rights l.i;
}
