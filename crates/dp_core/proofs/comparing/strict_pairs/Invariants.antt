use Rattle.std.specs.Prelude.{IfSome}
use Rattle.std.proofs.Common.{List, zip}
use Rattle.trs_core.specs.View.{tree}
use Rattle.pair_theory.specs.DependencyPair.{DependencyPair}
use Rattle.dp_core.specs.Numbered.{ArePairsOf}
use Rattle.dp_core.specs.LeftNumbers.{term_of}
use Rattle.dp_core.specs.PairConditions.{comparing_by, pair_is_weak}
use Rattle.dp_core.proofs.Collecting.{Collected}
use Rattle.dp_core.proofs.LeftNumbering.{Serves}
use Rattle.dp_core.proofs.comparing.strict_pairs.Given as goal

abbrev pub invariant-loop-n : goal.invariant-loop-n
invariant-loop-n g l =
    let comparing = comparing_by (g.O.ReductionPair.has l.order) (g.O.ReductionPair.is_too_big l.order) (g.O.ReductionOrder.is_weak l.order) (g.O.ReductionOrder.is_strict l.order) in
    ((taken : List DependencyPair) → ArePairsOf l.pairs l.problem taken
    → Collected (λ _ item. pair_is_weak comparing l.rules item.0 item.1) (zip l.problem taken) l.n-index l.strict.items)
    × IfSome l.last (λ left. Serves (λ t. g.O.ReductionPair.is_profile l.order t left.profile) l.lefts.numbers.items l.pairs left.number (tree (term_of left.term)))
