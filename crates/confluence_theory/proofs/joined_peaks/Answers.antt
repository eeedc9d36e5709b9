use Rattle.confluence_theory.proofs.Claims.{joined}
use Rattle.confluence_theory.proofs.joined_peaks.Goals as goal

pub returns : goal.returns
returns c = record { confluent = joined }
