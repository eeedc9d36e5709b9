use Rattle.std.proofs.Common.{◌≡◌, drop}
use Rattle.path_text.specs.Sharing.{paths_weight}
use Rattle.path_text.specs.Parts.{room_left}
use Rattle.path_text.proofs.repeating.room_behind_names.Given as goal

abbrev pub invariant-loop-k : goal.invariant-loop-k
invariant-loop-k l = room_left l.room (paths_weight (drop l.k l.names)) ≡ room_left l.fn.room (paths_weight l.names)
