use Rattle.std.proofs.Common.{refl}
use Rattle.crit_pairs.proofs.Answered.{first_listed, peaks_not_listed}
use Rattle.crit_pairs.proofs.peaks_check.first_peaks.Goals as goal

pub returns-in-Ok-clause-first : goal.returns-in-Ok-clause-first
returns-in-Ok-clause-first c = first_listed c.args.trs.now.rules c.args.most c.in-Ok.found _ refl refl c.in-Ok.ensures.peaks

pub returns-in-Err-clause-refused : goal.returns-in-Err-clause-refused
returns-in-Err-clause-refused c = rw c.peaks_refused.ensures (peaks_not_listed c.args.trs.now.rules c.in-Err.fault c.in-Err.ensures.fault)
