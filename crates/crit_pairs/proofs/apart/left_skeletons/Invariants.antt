use Rattle.std.proofs.Common.{take}
use Rattle.crit_pairs.specs.Apart.{HaveSkeletons}
use Rattle.crit_pairs.proofs.apart.left_skeletons.Given as goal

abbrev pub invariant-loop-rule : goal.invariant-loop-rule
invariant-loop-rule l = HaveSkeletons (take l.rule-index l.rules) l.skeletons.items
