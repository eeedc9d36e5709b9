use Rattle.std.proofs.Common.{◌≡◌, ◌<◌, ◌+◌, ◌-◌, ◌^◌, drop}
use Rattle.std.specs.Prelude.{min, sum_by}
use Rattle.trs_defs.specs.Size.{size_of}
use Rattle.crit_pairs.specs.Meeting.{solution}
use Rattle.crit_pairs.specs.SideSizes.{nodes_of_instance}
use Rattle.crit_pairs.proofs.side_instances.instance_size.Given as goal

abbrev pub invariant-loop-v : goal.invariant-loop-v
invariant-loop-v l = record {
  within : l.total < 2 ^ 64;
  counted : min (l.total + sum_by (λ v. size_of (solution l.bindings (l.from + v))) (drop l.v-index l.v-items)) (2 ^ 64 - 1)
      ≡ nodes_of_instance (λ v. solution l.bindings (l.from + v)) l.size;
}
