use Rattle.std.proofs.Common.{◌≡◌, List, None, drop}
use Rattle.trs_defs.specs.System.{RewriteRule}
use Rattle.dp_core.specs.Numbered.{AreItemsOf}
use Rattle.dp_core.specs.Symbols.{symbols_of_rules}
use Rattle.dp_core.specs.LeastLacking.{least_lacking}
use Rattle.dp_core.proofs.entries.lacking_in_rules.Given as goal

abbrev pub invariant-loop-k : goal.invariant-loop-k
invariant-loop-k g l =
    (chosen : List RewriteRule) → AreItemsOf l.rules l.numbers chosen
    → least_lacking (g.O.ReductionPair.has l.order) l.least (symbols_of_rules (drop l.k-index chosen)) ≡ least_lacking (g.O.ReductionPair.has l.order) None (symbols_of_rules chosen)
