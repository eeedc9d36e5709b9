use Rattle.std.proofs.Common.{ℕ, List, ◌++◌, take}
use Rattle.dp_graph.specs.EarlierPairs.{IsEarlier}
use Rattle.dp_graph.proofs.onward.add_all.Given as goal

abbrev pub invariant-loop-n : goal.invariant-loop-n
invariant-loop-n l = (before : List ℕ) → IsEarlier l.graph before l.fn.earlier → IsEarlier l.graph (before ++ take l.n-index l.members) l.earlier
