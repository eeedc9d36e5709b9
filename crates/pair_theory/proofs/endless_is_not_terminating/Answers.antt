use Rattle.pair_theory.proofs.Termination.{endless_not_terminating}
use Rattle.pair_theory.proofs.endless_is_not_terminating.Goals as goal

pub returns : goal.returns
returns c = endless_not_terminating
