use Rattle.order_theory.proofs.Removals.{remove_by_interpretation}
use Rattle.order_theory.proofs.remove_by_interpretation.Goals as goal

pub returns : goal.returns
returns c = record { finite = remove_by_interpretation }
