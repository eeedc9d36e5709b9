use Rattle.std.proofs.Common.{◌≡◌, ◌<◌, ◌+◌, ◌-◌, ◌^◌, min, drop}
use Rattle.kbo_find.specs.Counted.{total, total_of}
use Rattle.kbo_find.proofs.counts.Counts.weight.Given as goal

abbrev pub invariant-loop-count : goal.invariant-loop-count
invariant-loop-count g l =
    (l.sum < 2 ^ 64) × (min (l.sum + total_of (g.W.Weighting.weights l.order) (drop l.count-index l.count-items)) (2 ^ 64 - 1)
    ≡ min (total (g.W.Weighting.weights l.order) l.self) (2 ^ 64 - 1))
