use Rattle.crit_pairs.proofs.Renumbering.{beside_ground}
use Rattle.crit_pairs.proofs.sides.TermBuiltSides.beside_ground.Goals as goal

pub returns : goal.returns
returns c left right left_ground right_ground = beside_ground _ _ _ _ _ _ left right c.in_ok-made.ensures left_ground right_ground
