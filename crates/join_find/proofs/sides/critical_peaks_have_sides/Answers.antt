use Rattle.join_find.proofs.NarrowPeaks.{critical_sides}
use Rattle.join_find.proofs.sides.critical_peaks_have_sides.Goals as goal

pub returns : goal.returns
returns c = critical_sides c.args.trs.now c.systems_are_valid.ensures.valid c.systems_are_valid.ensures.bytes
