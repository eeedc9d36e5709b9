use Rattle.std.proofs.Common.{drop, map}
use Rattle.completion.specs.GreaterBy.{GreaterBy}
use Rattle.completion.specs.CompletionRun.{sides}
use Rattle.completion.specs.MetTerms.{IsMet, KeepsBase}
use Rattle.completion.proofs.LoopLaws.{FindsOn}
use Rattle.completion.proofs.closing.find.Given as goal

abbrev pub invariant-loop-peak : goal.invariant-loop-peak
invariant-loop-peak g l = record {
  on : FindsOn (GreaterBy l.order) l.system (map sides l.peaks) l.fn.units l.left (map sides (drop l.peak-index l.peaks));
  kept : KeepsBase l.fn.met l.met;
  met : IsMet l.system.rules l.met;
}
