use Rattle.std.proofs.Common.{◌≡◌, drop}
use Rattle.trs_defs.specs.Substitution.{apply, apply_all}
use Rattle.trs_defs.specs.Variable.{with_variables, with_variables_of_all}
use Rattle.trs_core.specs.View.{tree, forest}
use Rattle.crit_pairs.specs.Meeting.{put_in}
use Rattle.crit_pairs.specs.Sides.{IsDistinct}
use Rattle.crit_pairs.proofs.PutIn.{measure}
use Rattle.crit_pairs.proofs.solved.+name_instance.Given as goal

abbrev pub invariant-loop-arg : goal.invariant-loop-arg
invariant-loop-arg l = record {
  distinct : IsDistinct l.names.order.items;
  order : with_variables_of_all l.names.order.items (apply_all (put_in l.levels l.bindings.list.items) (forest (drop l.arg-index l.arg-items))) ≡ with_variables l.fn.names.order.items (apply (put_in l.levels l.bindings.list.items) (tree l.t));
}

abbrev pub decreases-name_instance : goal.decreases-name_instance
decreases-name_instance l = measure l.levels l.bindings.now.list.items (tree l.t.now)
