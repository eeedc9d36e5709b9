use Rattle.std.proofs.Common.{drop}
use Rattle.completion.specs.GreaterBy.{GreaterBy}
use Rattle.completion.specs.MetTerms.{IsMet}
use Rattle.completion.proofs.LoopLaws.{IsTaking}
use Rattle.completion.proofs.taking.take.Given as goal

abbrev pub invariant-loop-equation : goal.invariant-loop-equation
invariant-loop-equation l = record {
  on : IsTaking (GreaterBy l.order) l.equations l.fn.budget l.system l.left (drop l.equation-index l.equation-items);
  met : IsMet l.system.rules l.met;
}
