use Rattle.crit_pairs.proofs.SpotPeaks.{no_places}
use Rattle.crit_pairs.proofs.adding.position_of.Goals as goal

pub returns-then-is_empty : goal.returns-then-is_empty
returns-then-is_empty c = rw (no_places c.args.place.now c.is_empty.result c.is_empty.ensures c.if-is_empty.true) c.new.ensures
