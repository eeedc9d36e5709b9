use Rattle.crit_pairs.proofs.EqualRules.{none_known}
use Rattle.crit_pairs.proofs.known_peak.KnownPeaks.new.Goals as goal

pub returns : goal.returns
returns c = λ rules j p pool. none_known rules j p pool _ c.new.ensures.items
