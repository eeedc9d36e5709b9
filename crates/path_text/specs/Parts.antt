-- Parts of paths, as the code has them.
use Rattle.std.specs.Prelude.{ℕ, ◌-◌, nat_le, List, [], ◌∷◌, Option, Some, None, if◌then◌else◌}
use Rattle.trs_defs.specs.Path.{PlacedRule}
use Rattle.rewrite_core.specs.ShiftedPath.{shifted_path}
use Rattle.path_text.specs.declared.parts.PathPart.{PathPart}
use Rattle.path_text.specs.declared.parts.PathPart.TheVariants.{Step, Use}

-- the steps that a part stands for
abbrev pub steps_of_part : PathPart → List PlacedRule
steps_of_part (Step s) = s ∷ []
steps_of_part (Use by path) = shifted_path by path.now

-- what is left of a weight, if it is enough
abbrev pub room_left : ℕ → ℕ → Option ℕ
room_left room weight = if nat_le weight room then Some (room - weight) else None
