use Rattle.std.proofs.Common.{[], take}
use Rattle.label_find.specs.Lists.{rules_in, IsWith}
use Rattle.label_find.proofs.used.used_rules.Given as goal

abbrev pub invariant-loop-entry : goal.invariant-loop-entry
invariant-loop-entry l = IsWith [] (rules_in (take l.entry-index l.entries)) l.used.items
