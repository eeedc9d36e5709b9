use Rattle.confluence_theory.proofs.NormalForms.{forked_not_confluent}
use Rattle.confluence_theory.proofs.nonconfluence.forked_is_not_confluent.Goals as goal

pub returns : goal.returns
returns c = record { contradiction = forked_not_confluent }
