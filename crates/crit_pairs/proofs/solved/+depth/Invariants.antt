use Rattle.std.proofs.Common.{◌≡◌, ◌+◌, ◌-◌, ◌^◌, min, max, drop}
use Rattle.trs_defs.specs.Size.{depth_of, depth_of_all}
use Rattle.trs_defs.specs.Substitution.{apply, apply_all}
use Rattle.trs_core.specs.View.{tree, forest}
use Rattle.crit_pairs.specs.Meeting.{put_in}
use Rattle.crit_pairs.proofs.PutIn.{measure}
use Rattle.crit_pairs.proofs.solved.+depth.Given as goal

abbrev pub invariant-loop-arg : goal.invariant-loop-arg
invariant-loop-arg l =
    min (1 + max l.deepest (depth_of_all (apply_all (put_in l.levels l.bindings.list.items) (forest (drop l.arg-index l.arg-items))))) (2 ^ 64 - 1) ≡ min (depth_of (apply (put_in l.levels l.bindings.list.items) (tree l.t))) (2 ^ 64 - 1)

abbrev pub decreases-depth : goal.decreases-depth
decreases-depth l = measure l.levels l.bindings.now.list.items (tree l.t.now)
