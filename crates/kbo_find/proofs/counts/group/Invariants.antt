use Rattle.std.proofs.Common.{◌≡◌, ℕ, sum_by, take}
use Rattle.kbo_find.specs.Counted.{total_of}
use Rattle.kbo_find.proofs.counts.group.Given as goal

abbrev pub invariant-loop-symbol : goal.invariant-loop-symbol
invariant-loop-symbol l = (weight : ℕ → ℕ) → total_of weight l.counts.items ≡ sum_by weight (take l.symbol-index l.symbols)
