use Rattle.crit_pairs.specs.PlainPeak.{plain}
use Rattle.std.specs.Prelude.{map}
use Rattle.crit_pairs.proofs.Covering.{has_all}
use Rattle.crit_pairs.proofs.laws.listed_peaks_cover.Goals as goal

pub returns : goal.returns
returns c = λ system peaks is listed. c.critical_peaks_cover.ensures.covers system (map plain peaks) is (has_all system peaks listed)
