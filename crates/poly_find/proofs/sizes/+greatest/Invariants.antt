use Rattle.std.proofs.Common.{◌≡◌, ◌+◌, ◌*◌, ◌-◌, ◌<◌, ◌^◌, min, drop}
use Rattle.trs_core.specs.View.{tree, forest}
use Rattle.poly_find.specs.SmallTerms.{greatest, greatest_of}
use Rattle.poly_find.proofs.sizes.+greatest.Given as goal

abbrev pub invariant-loop-arg : goal.invariant-loop-arg
invariant-loop-arg l =
    (l.sum < 2 ^ 64) × (min (2 * (l.sum + greatest_of (forest (drop l.arg-index l.arg-items)))) (2 ^ 64 - 1) ≡ min (greatest (tree l.t)) (2 ^ 64 - 1))
