use Rattle.poly_lin.proofs.EachCounts.{same_counting}
use Rattle.poly_lin.proofs.counting.CountingCoefficients.row.Goals as goal

pub returns : goal.returns
returns g c = same_counting _ _ c.row.ensures
