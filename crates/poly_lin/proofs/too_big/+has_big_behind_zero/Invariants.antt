use Rattle.std.proofs.Common.{◌≡◌, ℕ, drop, ◌+◌}
use Rattle.trs_defs.specs.Tree.{app}
use Rattle.trs_core.specs.View.{tree, forest}
use Rattle.poly_lin.proofs.BehindZero.{Rest}
use Rattle.poly_lin.proofs.too_big.+has_big_behind_zero.Given as goal

abbrev pub invariant-loop-i : goal.invariant-loop-i
invariant-loop-i g l =
    (f : ℕ) → tree l.t ≡ app f (forest l.arg-items)
    → Rest (g.T.Coefficients.coefficient l.table) f (forest l.arg-items) (forest (drop l.i l.arg-items)) (l.i + 1)
