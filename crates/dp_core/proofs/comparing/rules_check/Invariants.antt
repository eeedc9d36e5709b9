use Rattle.std.proofs.Common.{List, zip}
use Rattle.trs_defs.specs.System.{RewriteRule}
use Rattle.rewrite_core.proofs.Items.{Passed}
use Rattle.dp_core.specs.Numbered.{AreItemsOf}
use Rattle.dp_core.specs.PairConditions.{comparing_by, rule_is_weak}
use Rattle.dp_core.proofs.comparing.rules_check.Given as goal

abbrev pub invariant-loop-k : goal.invariant-loop-k
invariant-loop-k g l =
    let comparing = comparing_by (g.O.ReductionPair.has l.order) (g.O.ReductionPair.is_too_big l.order) (g.O.ReductionOrder.is_weak l.order) (g.O.ReductionOrder.is_strict l.order) in
    (chosen : List RewriteRule) → AreItemsOf l.rules l.numbers chosen
    → Passed (λ _ item. rule_is_weak comparing item.0 item.1) (zip l.numbers chosen) l.k-index
