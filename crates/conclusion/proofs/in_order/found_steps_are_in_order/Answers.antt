use Rattle.conclusion.proofs.FoundInOrder.{found_in_order}
use Rattle.conclusion.proofs.in_order.found_steps_are_in_order.Goals as goal

pub returns : goal.returns
returns c = found_in_order
