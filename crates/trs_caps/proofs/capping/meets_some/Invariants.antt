use Rattle.std.proofs.Common.{take}
use Rattle.term_pool.proofs.RootRules.{NoneSuch}
use Rattle.trs_caps.specs.View.{holed}
use Rattle.trs_caps.proofs.MetRules.{Meets}
use Rattle.trs_caps.proofs.capping.meets_some.Given as goal

abbrev pub invariant-loop-k : goal.invariant-loop-k
invariant-loop-k l = NoneSuch (Meets (holed l.cap)) l.rules (take l.k-index l.k-items)
