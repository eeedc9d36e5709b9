use Rattle.confluence_theory.proofs.Claims.{strongly_closed}
use Rattle.confluence_theory.proofs.strongly_closed_peaks.Goals as goal

pub returns : goal.returns
returns c = record { confluent = strongly_closed }
