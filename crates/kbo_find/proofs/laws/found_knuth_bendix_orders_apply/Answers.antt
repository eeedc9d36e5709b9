use Rattle.kbo_find.proofs.KboLaw.{found_apply}
use Rattle.kbo_find.proofs.laws.found_knuth_bendix_orders_apply.Goals as goal

pub returns : goal.returns
returns c = found_apply
