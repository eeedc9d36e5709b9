use Rattle.std.proofs.Common.{◌≡◌, ◌+◌, All, take, drop}
use Rattle.trs_core.specs.SystemLimits.{IsShallow, nodes_of}
use Rattle.trs_core.proofs.RuleLists.{AreFaultless}
use Rattle.trs_core.proofs.plain.are_plain.Given as goal

abbrev pub invariant-loop-rule : goal.invariant-loop-rule
invariant-loop-rule l = record {
  faultless : AreFaultless l.arities l.rules l.rule-index;
  shallow : All IsShallow (take l.rule-index l.rules);
  nodes : l.nodes + nodes_of l.rules ≡ 65536 + nodes_of (drop l.rule-index l.rules);
}
