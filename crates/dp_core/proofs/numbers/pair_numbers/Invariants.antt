use Rattle.std.proofs.Common.{◌≡◌, ◌++◌, drop}
use Rattle.dp_core.specs.Numbered.{numbers_from}
use Rattle.dp_core.proofs.numbers.pair_numbers.Given as goal

abbrev pub invariant-loop-n : goal.invariant-loop-n
invariant-loop-n l = numbers_from 0 l.all ≡ l.numbers.items ++ numbers_from l.n (drop l.n l.all)
