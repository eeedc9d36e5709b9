use Rattle.std.proofs.Common.{take}
use Rattle.crit_pairs.specs.Table.{HasFirstPeaks}
use Rattle.completion.specs.GreaterBy.{GreaterBy}
use Rattle.completion.specs.MetTerms.{IsMet}
use Rattle.completion.proofs.LoopLaws.{IsClosing}
use Rattle.completion.proofs.closing.close.Given as goal

abbrev pub invariant-loop-met : goal.invariant-loop-met
invariant-loop-met l = record {
  on : IsClosing (GreaterBy l.order) l.fn.rules l.fn.units l.system l.left;
  met : IsMet l.system.rules l.met;
  table : HasFirstPeaks l.system.rules (take l.met.base l.met.pool) l.table;
}

abbrev pub decreases-loop-met : goal.decreases-loop-met
decreases-loop-met l = l.left
