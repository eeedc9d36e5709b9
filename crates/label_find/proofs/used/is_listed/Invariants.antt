use Rattle.std.proofs.Common.{◌≡◌, drop}
use Rattle.trs_defs.specs.Variable.{is_listed}
use Rattle.label_find.proofs.used.is_listed.Given as goal

abbrev pub invariant-loop-other : goal.invariant-loop-other
invariant-loop-other l = is_listed l.rule (drop l.other-index l.rules) ≡ is_listed l.rule l.rules
