use Rattle.std.proofs.Common.{◌≡◌, ◌+◌, ◌-◌, ◌^◌, min, max, drop}
use Rattle.trs_defs.specs.Size.{depth_of, depth_of_all}
use Rattle.trs_core.specs.View.{tree, forest}
use Rattle.trs_core.proofs.terms.Term.+depth.Given as goal

abbrev pub invariant-loop-arg : goal.invariant-loop-arg
invariant-loop-arg l = min (1 + max l.deepest (depth_of_all (forest (drop l.arg-index l.arg-items)))) (2 ^ 64 - 1) ≡ min (depth_of (tree l.self)) (2 ^ 64 - 1)
