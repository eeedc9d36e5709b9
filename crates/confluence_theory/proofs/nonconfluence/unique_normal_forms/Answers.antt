use Rattle.confluence_theory.proofs.NormalForms.{confluent_unique}
use Rattle.confluence_theory.proofs.nonconfluence.unique_normal_forms.Goals as goal

pub returns : goal.returns
returns c = record { unique = confluent_unique }
