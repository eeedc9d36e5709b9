-- The trees of sides that peaks may share.
use Rattle.trs_defs.specs.Tree.{Tree}
use Rattle.trs_core.specs.View.{tree}
use Rattle.rewrite_core.specs.declared.checks.sides.SharedSide.{SharedSide}
use Rattle.rewrite_core.specs.declared.checks.sides.SharedSide.TheVariants as side

abbrev pub shared_tree : SharedSide → Tree
shared_tree (side.Own t) = tree t.value
shared_tree (side.Shared t) = tree t.now
