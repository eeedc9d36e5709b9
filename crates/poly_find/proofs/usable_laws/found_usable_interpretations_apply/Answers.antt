use Rattle.poly_find.proofs.UsableLaw.{found_apply}
use Rattle.poly_find.proofs.usable_laws.found_usable_interpretations_apply.Goals as goal

pub returns : goal.returns
returns c = found_apply
