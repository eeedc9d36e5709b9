use Rattle.confluence_theory.proofs.NormalForms.{split_not_unique}
use Rattle.confluence_theory.proofs.nonconfluence.split_is_not_unique.Goals as goal

pub returns : goal.returns
returns c = split_not_unique
