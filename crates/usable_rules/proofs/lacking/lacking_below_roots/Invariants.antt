use Rattle.std.proofs.Common.{◌≡◌, List, drop}
use Rattle.pair_theory.specs.DependencyPair.{DependencyPair}
use Rattle.dp_core.specs.Numbered.{ArePairsOf}
use Rattle.dp_core.specs.Symbols.{symbols_below_roots}
use Rattle.dp_core.specs.LeastLacking.{least_lacking}
use Rattle.usable_rules.proofs.lacking.lacking_below_roots.Given as goal

abbrev pub invariant-loop-n : goal.invariant-loop-n
invariant-loop-n g l =
    (taken : List DependencyPair) → ArePairsOf l.pairs l.problem taken
    → least_lacking (g.O.ReductionPair.has l.order) l.found (symbols_below_roots (drop l.n-index taken)) ≡ least_lacking (g.O.ReductionPair.has l.order) l.fn.least (symbols_below_roots taken)
