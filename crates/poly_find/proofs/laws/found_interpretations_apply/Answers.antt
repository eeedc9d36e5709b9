use Rattle.poly_find.proofs.PolyLaw.{found_apply}
use Rattle.poly_find.proofs.laws.found_interpretations_apply.Goals as goal

pub returns : goal.returns
returns c = found_apply
