use Rattle.std.proofs.Common.{◌≡◌, ◌≤◌}
use Rattle.trs_defs.specs.Size.{size_of}
use Rattle.trs_core.specs.View.{tree}
use Rattle.order_theory.specs.ArgumentFilter.{filtered}
use Rattle.path_lpo.proofs.unshared.root.Given as goal

abbrev pub invariant-loop-current : goal.invariant-loop-current
invariant-loop-current g l = record {
  same : filtered (g.P.Precedence.filters l.order) (tree l.current) ≡ filtered (g.P.Precedence.filters l.order) (tree l.t);
  size : size_of (tree l.current) ≤ size_of (tree l.t);
}

abbrev pub decreases-loop-current : goal.decreases-loop-current
decreases-loop-current g l = size_of (tree l.current)
