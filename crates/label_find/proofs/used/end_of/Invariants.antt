use Rattle.std.proofs.Common.{◌≡◌, max, drop}
use Rattle.label_find.specs.Lists.{end_of}
use Rattle.label_find.proofs.used.end_of.Given as goal

abbrev pub invariant-loop-rule : goal.invariant-loop-rule
invariant-loop-rule l = max l.end (end_of (drop l.rule-index l.rules)) ≡ end_of l.rules
