use Rattle.std.proofs.Common.{◌≡◌, ◌+◌, List, None, drop}
use Rattle.pair_theory.specs.DependencyPair.{DependencyPair}
use Rattle.dp_core.specs.Numbered.{ArePairsOf}
use Rattle.dp_core.specs.SubtermConditions.{roots_of}
use Rattle.dp_core.specs.LeastLacking.{least_lacking}
use Rattle.dp_core.proofs.entries.lacking_root.Given as goal

abbrev pub invariant-loop-n : goal.invariant-loop-n
invariant-loop-n g l =
    (taken : List DependencyPair) → ArePairsOf l.pairs l.problem taken
    → least_lacking (λ f. g.O.ReductionPair.has l.order (f + 4096)) l.least (roots_of (drop l.n-index taken))
    ≡ least_lacking (λ f. g.O.ReductionPair.has l.order (f + 4096)) None (roots_of taken)
