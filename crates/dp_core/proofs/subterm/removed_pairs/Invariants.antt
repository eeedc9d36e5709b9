use Rattle.std.proofs.Common.{List, zip}
use Rattle.pair_theory.specs.DependencyPair.{DependencyPair}
use Rattle.dp_core.specs.Numbered.{ArePairsOf}
use Rattle.dp_core.specs.SubtermConditions.{projects_within}
use Rattle.dp_core.proofs.Collecting.{Collected}
use Rattle.dp_core.proofs.subterm.removed_pairs.Given as goal

abbrev pub invariant-loop-n : goal.invariant-loop-n
invariant-loop-n l = (taken : List DependencyPair) → ArePairsOf l.pairs l.problem taken
    → Collected (λ _ item. projects_within l.projection item.0 item.1) (zip l.problem taken) l.n-index l.removed.items
