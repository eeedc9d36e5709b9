use Rattle.std.proofs.Common.{◌≡◌, ◌++◌, drop}
use Rattle.rewrite_core.specs.ShiftedPath.{shifted_path}
use Rattle.rewrite_core.proofs.shifting.push_shifted.Given as goal

abbrev pub invariant-loop-step : goal.invariant-loop-step
invariant-loop-step l = l.steps.items ++ shifted_path l.by (drop l.step-index l.path) ≡ l.initial.steps.items ++ shifted_path l.by l.path
