use Rattle.conclusion.proofs.InOrder.{applies_in_order}
use Rattle.conclusion.proofs.in_order.steps_apply_in_order.Goals as goal

pub returns : goal.returns
returns c = applies_in_order
