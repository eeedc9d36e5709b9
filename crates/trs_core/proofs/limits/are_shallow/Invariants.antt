use Rattle.std.proofs.Common.{All, take}
use Rattle.trs_core.specs.SystemLimits.{IsShallow}
use Rattle.trs_core.proofs.limits.are_shallow.Given as goal

abbrev pub invariant-loop-rule : goal.invariant-loop-rule
invariant-loop-rule l = All IsShallow (take l.rule-index l.rules)
