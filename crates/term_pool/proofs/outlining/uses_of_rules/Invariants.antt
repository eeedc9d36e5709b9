use Rattle.std.proofs.Common.{◌≡◌, length}
use Rattle.term_pool.proofs.outlining.uses_of_rules.Given as goal

abbrev pub invariant-loop-step : goal.invariant-loop-step
invariant-loop-step l = length l.uses.items ≡ l.count
