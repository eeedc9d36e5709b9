use Rattle.std.proofs.Common.{◌≡◌, max, min, map, drop}
use Rattle.path_text.specs.Sharing.{longest_place}
use Rattle.path_text.specs.Paths.{all_steps}
use Rattle.path_text.specs.Parts.{steps_of_part}
use Rattle.path_text.proofs.parts.longest_of_parts.Given as goal

abbrev pub invariant-loop-part : goal.invariant-loop-part
invariant-loop-part l =
    max l.longest (min (longest_place (all_steps (map steps_of_part (drop l.part-index l.parts)))) 18446744073709551615)
    ≡ min (longest_place (all_steps (map steps_of_part l.parts))) 18446744073709551615
