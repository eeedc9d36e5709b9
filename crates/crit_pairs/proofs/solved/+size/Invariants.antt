use Rattle.std.proofs.Common.{◌≡◌, ◌+◌, ◌-◌, ◌<◌, ◌^◌, min, drop}
use Rattle.trs_defs.specs.Size.{size_of, size_of_all}
use Rattle.trs_defs.specs.Substitution.{apply, apply_all}
use Rattle.trs_core.specs.View.{tree, forest}
use Rattle.crit_pairs.specs.Meeting.{put_in}
use Rattle.crit_pairs.proofs.PutIn.{measure}
use Rattle.crit_pairs.proofs.solved.+size.Given as goal

abbrev pub invariant-loop-arg : goal.invariant-loop-arg
invariant-loop-arg l =
    (l.total < 2 ^ 64)
    × (min (l.total + size_of_all (apply_all (put_in l.levels l.bindings.list.items) (forest (drop l.arg-index l.arg-items)))) (2 ^ 64 - 1) ≡ min (size_of (apply (put_in l.levels l.bindings.list.items) (tree l.t))) (2 ^ 64 - 1))

abbrev pub decreases-size : goal.decreases-size
decreases-size l = measure l.levels l.bindings.now.list.items (tree l.t.now)
