use Rattle.std.proofs.Common.{◌∙◌, ap, max}
use Rattle.poly_lin.proofs.EachCounts.{counts}
use Rattle.poly_lin.proofs.counting.CountingCoefficients.at.Goals as goal

pub returns : goal.returns
returns g c =
    counts (g.T.Coefficients.in_row c.args.self.now.table.now c.args.row) c.args.i c.max.result c.if-i-eq0.false
    (c.max.ensures ∙ ap (λ n. max n 1) c.at-coefficient.ensures)
