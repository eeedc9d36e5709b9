use Rattle.order_find.proofs.SubtermLaw.{found_apply}
use Rattle.order_find.proofs.laws.found_places_apply.Goals as goal

pub returns : goal.returns
returns c = found_apply
