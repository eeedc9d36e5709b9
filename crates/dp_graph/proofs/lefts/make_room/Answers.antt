use Rattle.dp_graph.proofs.LeftLaws.{one_place_more}
use Rattle.dp_graph.proofs.lefts.make_room.Goals as goal

pub loop-seen-init : goal.loop-seen-init
loop-seen-init c = λ i j. (λ h. h, λ h. h)

pub loop-seen-preserved : goal.loop-seen-preserved
loop-seen-preserved c = one_place_more c.args.seen.now.items c.loop-seen.seen.items c.push.new.self.items c.in_ok-push.ensures.items c.loop-seen.invariant
