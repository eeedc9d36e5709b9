use Rattle.confluence_theory.proofs.CapClash.{clash_apart, together}
use Rattle.confluence_theory.proofs.nonconfluence.clashing_caps.Goals as goal

pub returns : goal.returns
returns c = record { apart = clash_apart; together = together }
