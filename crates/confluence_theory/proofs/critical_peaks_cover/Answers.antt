use Rattle.confluence_theory.proofs.CriticalCover.{covered}
use Rattle.confluence_theory.proofs.critical_peaks_cover.Goals as goal

pub returns : goal.returns
returns c = record { covers = covered }
