use Rattle.std.proofs.Common.{◌≡◌, map, drop}
use Rattle.path_text.specs.Sharing.{path_weight}
use Rattle.path_text.specs.Paths.{all_steps}
use Rattle.path_text.specs.Parts.{steps_of_part, room_left}
use Rattle.path_text.proofs.parts.room_behind.Given as goal

abbrev pub invariant-loop-part : goal.invariant-loop-part
invariant-loop-part l =
    room_left l.room (path_weight (all_steps (map steps_of_part (drop l.part-index l.parts))))
    ≡ room_left l.fn.room (path_weight (all_steps (map steps_of_part l.parts)))
