use Rattle.std.proofs.Common.{List, take}
use Rattle.pair_theory.specs.DependencyPair.{DependencyPair}
use Rattle.dp_core.specs.Numbered.{ArePairsOf}
use Rattle.dp_core.specs.LeastMissing.{IsLeastMissing}
use Rattle.dp_core.specs.SubtermConditions.{roots_of}
use Rattle.dp_core.proofs.subterm.least_missing.Given as goal

abbrev pub invariant-loop-n : goal.invariant-loop-n
invariant-loop-n l = (taken : List DependencyPair) → ArePairsOf l.pairs l.problem taken → IsLeastMissing l.projection (roots_of (take l.n-index taken)) l.least
