use Rattle.std.proofs.Common.{length}
use Rattle.trs_core.proofs.replacing.+put_at.Given as goal

abbrev pub decreases-put_at : goal.decreases-put_at
decreases-put_at l = length l.places.now
