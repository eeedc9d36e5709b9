-- Each part is smaller than the cap.
use Rattle.std.specs.Prelude.{◌≤◌, List, [], ◌∷◌, map}
use Rattle.std.proofs.Common.{arith}
use Rattle.trs_caps.specs.HoledTree.{holed_trees, holed_size, holed_sizes}
use Rattle.trs_caps.specs.declared.holed.Cap.{Cap}
use Rattle.trs_caps.specs.declared.holed.Cap.TheVariants.{Open, Own, Symbol}
use Rattle.trs_caps.specs.declared.holed.Parts.TheDeep.{deep-Cap}
use Rattle.trs_caps.specs.View.{holed}
use denote.Param.Weighed.{most}

deep_le_size : (c : Cap) → deep-Cap c ≤ holed_size (holed c)
deep_le_size Open = omega arith
deep_le_size (Own v) = omega arith
deep_le_size (Symbol f cs) = omega arith

pub most_le_sizes : (cs : List Cap) → most deep-Cap cs ≤ holed_sizes (holed_trees (map holed cs))
most_le_sizes [] = omega arith
most_le_sizes (c ∷ cs) = omega (arith, deep_le_size c, most_le_sizes cs)
