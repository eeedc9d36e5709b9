use Rattle.std.proofs.Common.{◌≡◌, ◌++◌, map, drop}
use Rattle.pair_theory.specs.ReductionPair.{marked_rule}
use Rattle.order_search.proofs.marking.marked_rules.Given as goal

abbrev pub invariant-loop-pair : goal.invariant-loop-pair
invariant-loop-pair l = map marked_rule l.pairs ≡ l.rules.items ++ map marked_rule (drop l.pair-index l.pairs)
