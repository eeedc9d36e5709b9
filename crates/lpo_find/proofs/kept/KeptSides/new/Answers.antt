use Rattle.lpo_find.proofs.KeptSides.{nothing_more}
use Rattle.lpo_find.proofs.kept.KeptSides.new.Goals as goal

pub loop-preserved : goal.loop-preserved
loop-preserved c = rw c.in_ok-push.ensures.items (nothing_more c.loop.places.items c.loop.invariant)
