use Rattle.std.proofs.Common.{◌≡◌, ◌+◌, ◌-◌, ◌^◌, min, max, drop}
use Rattle.trs_defs.specs.Size.{size_of, depth_of, depth_of_all}
use Rattle.trs_defs.specs.Substitution.{apply, apply_all}
use Rattle.trs_defs.specs.Tree.{var}
use Rattle.trs_core.specs.View.{tree, forest}
use Rattle.crit_pairs.specs.Meeting.{solution}
use Rattle.crit_pairs.proofs.side_instances.+instance_depth.Given as goal

abbrev pub invariant-loop-arg : goal.invariant-loop-arg
invariant-loop-arg l =
    min (1 + max l.deepest (depth_of_all (apply_all (solution l.bindings) (apply_all (λ v. var (l.from + v)) (forest (drop l.arg-index l.arg-items)))))) (2 ^ 64 - 1)
    ≡ min (depth_of (apply (solution l.bindings) (apply (λ v. var (l.from + v)) (tree l.side)))) (2 ^ 64 - 1)

abbrev pub decreases-instance_depth : goal.decreases-instance_depth
decreases-instance_depth l = size_of (tree l.side.now)
