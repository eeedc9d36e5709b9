use Rattle.std.proofs.Common.{ℕ, List, ◌++◌, take}
use Rattle.dp_graph.specs.Unnamed.{AreUnnamed}
use Rattle.dp_graph.proofs.UnnamedPairs.{NamedSoFar}
use Rattle.dp_graph.proofs.naming.name.Given as goal

abbrev pub invariant-loop-n : goal.invariant-loop-n
invariant-loop-n l = record {
  passed : (numbers named : List ℕ) → AreUnnamed numbers named l.fn.left → NamedSoFar numbers named l.members l.n-index;
  unnamed : (numbers named : List ℕ) → AreUnnamed numbers named l.fn.left → AreUnnamed numbers (named ++ take l.n-index l.members) l.left;
}
