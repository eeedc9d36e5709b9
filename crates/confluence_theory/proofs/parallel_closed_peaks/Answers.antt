use Rattle.confluence_theory.proofs.Claims.{parallel_closed}
use Rattle.confluence_theory.proofs.parallel_closed_peaks.Goals as goal

pub returns : goal.returns
returns c = record { confluent = parallel_closed }
