use Rattle.std.proofs.Common.{◌≡◌, ◌+◌, ◌-◌, ◌<◌, ◌^◌, min, drop}
use Rattle.trs_defs.specs.Size.{size_of, size_of_all}
use Rattle.trs_core.specs.View.{tree, forest}
use Rattle.pair_theory.specs.Subterm.{Subs}
use Rattle.dp_core.proofs.contained.+size_unless_found.Given as goal

abbrev pub invariant-loop-arg : goal.invariant-loop-arg
invariant-loop-arg l = record {
  total : (l.total < 2 ^ 64) × (min (l.total + size_of_all (forest (drop l.arg-index l.arg-items))) (2 ^ 64 - 1) ≡ min (size_of (tree l.s)) (2 ^ 64 - 1));
  rest : Subs (tree l.t) (forest l.arg-items) → Subs (tree l.t) (forest (drop l.arg-index l.arg-items));
}
