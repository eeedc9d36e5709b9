use Rattle.std.proofs.Common.{◌-◌, ◌+◌, List, length}
use Rattle.trs_defs.specs.Tree.{Tree}
use Rattle.trs_defs.specs.System.{RewriteRule}
use Rattle.join_find.specs.LastSteps.{AreLastSteps}
use Rattle.join_find.proofs.last_steps.LastSteps.keep.Given as goal

abbrev pub invariant-loop-self : goal.invariant-loop-self
invariant-loop-self l = (rules : List RewriteRule) (pool : List Tree) → AreLastSteps rules pool l.fn.self → AreLastSteps rules pool l.self

abbrev pub decreases-loop-self : goal.decreases-loop-self
decreases-loop-self l = (l.left + 1) - length l.self.by_left.items
