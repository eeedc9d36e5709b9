use Rattle.order_theory.proofs.UsableProblems.{usable_by_interpretation}
use Rattle.order_theory.proofs.usable_removal.remove_by_usable_interpretation.Goals as goal

pub returns : goal.returns
returns c = record { finite = usable_by_interpretation }
