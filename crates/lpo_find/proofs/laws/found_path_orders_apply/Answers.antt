use Rattle.lpo_find.proofs.LpoLaw.{found_apply}
use Rattle.lpo_find.proofs.laws.found_path_orders_apply.Goals as goal

pub returns : goal.returns
returns c = found_apply
