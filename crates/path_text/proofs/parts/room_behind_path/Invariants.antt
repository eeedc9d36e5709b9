use Rattle.std.proofs.Common.{◌≡◌, drop}
use Rattle.path_text.specs.Sharing.{path_weight}
use Rattle.path_text.specs.Parts.{room_left}
use Rattle.path_text.proofs.parts.room_behind_path.Given as goal

abbrev pub invariant-loop-step : goal.invariant-loop-step
invariant-loop-step l = room_left l.room (path_weight (drop l.step-index l.path)) ≡ room_left l.fn.room (path_weight l.path)
