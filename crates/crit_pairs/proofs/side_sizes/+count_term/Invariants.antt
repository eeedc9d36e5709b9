use Rattle.std.proofs.Common.{drop}
use Rattle.trs_core.specs.View.{tree, forest}
use Rattle.crit_pairs.specs.SideSizes.{CountsTerm}
use Rattle.crit_pairs.specs.declared.side_sizes.SideSize.{SideSize}
use Rattle.crit_pairs.proofs.SideSizeLaws.{CountsAll}
use Rattle.crit_pairs.proofs.side_sizes.+count_term.Given as goal

abbrev pub invariant-loop-arg : goal.invariant-loop-arg
invariant-loop-arg l = (new : SideSize) → CountsAll (forest (drop l.arg-index l.arg-items)) l.size new → CountsTerm (tree l.t) l.fn.size new
