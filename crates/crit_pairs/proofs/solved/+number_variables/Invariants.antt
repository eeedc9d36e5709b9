use Rattle.std.proofs.Common.{map, drop}
use Rattle.trs_defs.specs.Size.{size_of}
use Rattle.trs_core.specs.View.{tree, forest}
use Rattle.trs_unify.proofs.NewNames.{AreRenaming}
use Rattle.crit_pairs.specs.Sides.{IsDistinct}
use Rattle.crit_pairs.proofs.solved.+number_variables.Given as goal

abbrev pub invariant-loop-arg : goal.invariant-loop-arg
invariant-loop-arg l = record {
  distinct : IsDistinct l.names.order.items;
  renaming : AreRenaming l.fn.names.order.items l.f (tree l.t) (map tree l.built.items) l.names.order.items (forest (drop l.arg-index l.arg-items));
}

abbrev pub decreases-number_variables : goal.decreases-number_variables
decreases-number_variables l = size_of (tree l.t.now)
