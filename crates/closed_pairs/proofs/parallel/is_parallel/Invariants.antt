use Rattle.std.proofs.Common.{◌↔◌, ◌∷◌, drop}
use Rattle.closed_pairs.proofs.Leftward.{GoesRight}
use Rattle.closed_pairs.proofs.parallel.is_parallel.Given as goal

abbrev pub invariant-loop-step : goal.invariant-loop-step
invariant-loop-step l = (GoesRight (l.previous ∷ drop l.step-index l.rest)) ↔ (GoesRight l.path)
