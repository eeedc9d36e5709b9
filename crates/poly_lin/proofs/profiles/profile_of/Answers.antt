use Rattle.trs_core.specs.View.{tree}
use Rattle.poly_lin.proofs.Windows.{sums_are}
use Rattle.poly_lin.proofs.profiles.profile_of.Goals as goal

pub returns : goal.returns
returns g c = record {
  big = c.has_big_coefficient.ensures;
  constant = c.saturated_value.ensures;
  coefficients = sums_are (g.T.Coefficients.coefficient c.args.table.now) 64 0 (tree c.args.t.now) c.add_coefficients.new.sums c.add_coefficients.ensures.added;
}
