use Rattle.std.proofs.Common.{take}
use Rattle.crit_pairs.specs.SideSizes.{AreSizes}
use Rattle.crit_pairs.proofs.side_sizes.side_sizes.Given as goal

abbrev pub invariant-loop-rule : goal.invariant-loop-rule
invariant-loop-rule l = AreSizes (take l.rule-index l.rules) l.sizes.items
