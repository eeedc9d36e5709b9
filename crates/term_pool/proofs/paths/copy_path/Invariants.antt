use Rattle.std.proofs.Common.{◌≡◌, take}
use Rattle.term_pool.proofs.paths.copy_path.Given as goal

abbrev pub invariant-loop-step : goal.invariant-loop-step
invariant-loop-step l = l.copy.items ≡ take l.step-index l.path
