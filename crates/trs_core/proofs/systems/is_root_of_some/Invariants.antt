use Rattle.std.proofs.Common.{◌≡◌, drop}
use Rattle.trs_defs.specs.System.{is_defined}
use Rattle.trs_core.proofs.systems.is_root_of_some.Given as goal

abbrev pub invariant-loop-rule : goal.invariant-loop-rule
invariant-loop-rule l = is_defined (drop l.rule-index l.rules) l.f ≡ is_defined l.rules l.f
