use Rattle.std.proofs.Common.{◌≡◌, ◌+◌, ◌≤◌, min, length, map, drop}
use Rattle.path_text.specs.Paths.{all_steps}
use Rattle.path_text.specs.Parts.{steps_of_part}
use Rattle.path_text.proofs.parts.count_of_parts.Given as goal

abbrev pub invariant-loop-part : goal.invariant-loop-part
invariant-loop-part l =
    (l.count ≤ 18446744073709551615)
    × (min (l.count + length (all_steps (map steps_of_part (drop l.part-index l.parts)))) 18446744073709551615
    ≡ min (length (all_steps (map steps_of_part l.parts))) 18446744073709551615)
