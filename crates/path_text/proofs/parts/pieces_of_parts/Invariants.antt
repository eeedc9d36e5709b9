use Rattle.std.proofs.Common.{◌≡◌, ◌++◌, map, drop}
use Rattle.path_text.specs.Paths.{all_steps}
use Rattle.path_text.specs.Parts.{steps_of_part}
use Rattle.path_text.proofs.parts.pieces_of_parts.Given as goal

abbrev pub invariant-loop-part : goal.invariant-loop-part
invariant-loop-part l = l.pieces ++ all_steps (map steps_of_part (drop l.part-index l.parts)) ≡ all_steps (map steps_of_part l.parts)
