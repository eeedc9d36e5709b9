use Rattle.std.proofs.Common.{◌≡◌, ◌++◌, drop}
use Rattle.dp_core.specs.Numbered.{numbers_from}
use Rattle.dp_core.proofs.numbers.rule_numbers.Given as goal

abbrev pub invariant-loop-n : goal.invariant-loop-n
invariant-loop-n l = numbers_from 0 l.rules ≡ l.numbers.items ++ numbers_from l.n (drop l.n l.rules)
