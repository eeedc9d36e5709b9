use Rattle.std.proofs.Common.{◌≡◌, ℕ, ◌+◌, drop, length}
use Rattle.trs_defs.specs.Tree.{app}
use Rattle.trs_core.specs.View.{tree, forest}
use Rattle.poly_lin.specs.Covering.{IsBehind}
use Rattle.poly_lin.proofs.Windows.{Remains, IsNext}
use Rattle.poly_lin.proofs.window.+add_coefficients.Given as goal

abbrev pub invariant-loop-i : goal.invariant-loop-i
invariant-loop-i g l =
    (length l.sums ≡ g.row.W) × IsBehind (l.from + g.row.W) l.fn.best l.next × ((f : ℕ) → tree l.t ≡ app f (forest l.arg-items)
    → Remains (g.T.Coefficients.coefficient l.table) g.row.W l.from l.factor f (tree l.t) l.fn.sums l.sums (l.i + 1) (forest (drop l.i l.arg-items))
    × IsNext (g.T.Coefficients.coefficient l.table) (l.from + g.row.W) f (tree l.t) l.fn.best l.next (l.i + 1) (forest (drop l.i l.arg-items)))
