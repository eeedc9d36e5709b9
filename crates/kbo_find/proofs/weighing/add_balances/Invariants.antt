use Rattle.std.proofs.Common.{◌≡◌, ◌++◌, map, take}
use Rattle.kbo_find.specs.Balanced.{rule_of}
use Rattle.kbo_find.proofs.weighing.add_balances.Given as goal

abbrev pub invariant-loop-rule : goal.invariant-loop-rule
invariant-loop-rule l = map rule_of l.balances.items ≡ map rule_of l.initial.balances.items ++ take l.rule-index l.rules
