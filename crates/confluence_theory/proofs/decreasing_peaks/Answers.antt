use Rattle.confluence_theory.proofs.Claims.{decreasing}
use Rattle.confluence_theory.proofs.decreasing_peaks.Goals as goal

pub returns : goal.returns
returns c = record { confluent = decreasing }
