use Rattle.std.proofs.Common.{◌≡◌, ℕ, drop, ◌+◌}
use Rattle.trs_defs.specs.Tree.{app}
use Rattle.trs_core.specs.View.{tree, forest}
use Rattle.poly_lin.proofs.Saturation.{Partly}
use Rattle.poly_lin.proofs.values.+saturated_value.Given as goal

abbrev pub invariant-loop-i : goal.invariant-loop-i
invariant-loop-i g l =
    (f : ℕ) → tree l.t ≡ app f (forest l.arg-items)
    → Partly (g.T.Coefficients.coefficient l.table) (λ x. l.each) f (forest l.arg-items) (forest (drop l.i l.arg-items)) (l.i + 1) l.sum
